-- Conservation, from the law of covers: in an accepted book each entry is its protection less the sum of the covers that name it.
-- Assumes nothing.
use Prim.Native.Nat.{ℕ, zero, suc, ◌<◌}
use mathlib.Core.Path.{◌≡◌, refl, ◌∙◌}
use mathlib.Core.List.{List, [], ◌∷◌, map}
use native.Mathlib.Omega.{arith}
use lib.ListN.{length, get_or, length-map, get_or-map}
use Rattle.rules.specs.Book.{Protection, Placed}
use Rattle.rules.specs.Read.{protections_of}
use Rattle.rules.specs.Register.{blank, entry_of}
use Rattle.rules.specs.Rows.{sum_over}
use Rattle.laws.proofs.Protections.{protections_count}
use Rattle.covers.specs.Claims.{drawn_of, Conserved, Conservation, AllCoversFit, left_by}
use Rattle.covers.proofs.Less.{less_length, less_at}
use Rattle.covers.proofs.Acceptance.{accepted_iff}

-- inside a list the default does not matter
get_d_any : {A : Type 0} (xs : List A) (i : ℕ) (d e : A) → i < length xs → get_or xs i d ≡ get_or xs i e
get_d_any [] i d e h = let z : ⊥ = omega arith in absurd z
get_d_any (x ∷ xs) zero d e h = refl
get_d_any (x ∷ xs) (suc i) d e h = get_d_any xs i d e (omega arith)

entry_conserved : (bought : List Protection) (items : List Placed) → AllCoversFit (map entry_of bought) items → (p₀ : Protection) (i : ℕ) → i < length bought
    → Conserved (get_or bought i p₀) (get_or (left_by (map entry_of bought) items) i blank) (sum_over (drawn_of i) items)
entry_conserved bought items c p₀ i h =
    let there : i < length (map entry_of bought) = omega (arith, length-map bought entry_of) in
    let here = get_d_any (map entry_of bought) i blank (entry_of p₀) there ∙ get_or-map entry_of bought i p₀ in
    let enough = rw here at (c.enough i there) in
    rw (less_at (map entry_of bought) (λ k. sum_over (drawn_of k) items) i, here)
    (record { entity = refl; rank = refl; days = refl; amount = omega (arith, enough) })

-- so in an accepted book
pub conservation : Conservation
conservation ws rows entries items left e =
    let a = (accepted_iff ws rows entries items left).0 e in
    let bought = (protections_of ws).records in
    let n = protections_count ws a.0.number in
    rw a.1.1 (record {
      count = less_length (map entry_of bought) (λ i. sum_over (drawn_of i) items) ∙ length-map bought entry_of ∙ n;
      each = λ p₀ i h. entry_conserved bought items a.1.0 p₀ i (omega arith);
    })
