-- Two books side by side, as words: of one shape; equal but for one amount; the second with covers put in. What the laws of this crate are said
-- of, before anything is read. Assumes nothing.
use Rattle.std.specs.Prelude.{ℕ, ◌<◌, ◌≡◌, List, [], ◌∷◌, length}
use Rattle.rules.specs.Word.{word, kind_of, amounts_in}

-- two words of one shape: of one kind, with as many amounts to follow
pub record Shape (a b : ℕ) : Type 0 where
  pub kind : kind_of a ≡ kind_of b
  pub amounts : amounts_in a ≡ amounts_in b

-- two books as long as each other, each word related to the word at its place; past the end too, where both read as 0
pub record Wordwise (W : ℕ → ℕ → Type 0) (xs ys : List ℕ) : Type 0 where
  pub long : length xs ≡ length ys
  pub at : (i : ℕ) → W (word xs i) (word ys i)

-- two books that are equal but for one word, which stands in both and is an amount in both
pub record OneAmount (xs ys : List ℕ) (k : ℕ) : Type 0 where
  pub long : length xs ≡ length ys
  pub there : k < length xs
  pub first : kind_of (word xs k) ≡ 0
  pub second : kind_of (word ys k) ≡ 0
  pub others : (i : ℕ) → (i ≡ k → ⊥) → word xs i ≡ word ys i

-- the second book is the first with covers put in, each a word of kind 7 and an amount, anywhere; the end words, which count the words, may differ
pub data Inserted : List ℕ → List ℕ → Type 0 where
  same : {a : ℕ} {xs ys : List ℕ} → Inserted xs ys → Inserted (a ∷ xs) (a ∷ ys)
  put : {cover amount : ℕ} {xs ys : List ℕ} → kind_of cover ≡ 7 → kind_of amount ≡ 0 → Inserted xs ys → Inserted xs (cover ∷ amount ∷ ys)
  ends : {a b : ℕ} → kind_of a ≡ 15 → kind_of b ≡ 15 → Inserted (a ∷ []) (b ∷ [])
