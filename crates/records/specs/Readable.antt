-- Words that can be read. Assumes nothing.
use Rattle.std.specs.Prelude.{ℕ, ◌^◌, ◌≤◌, List, length}

-- at least n words, and no more than a book may have. A fact of a clause and of no type: how many words have to be there differs from function to
-- function.
pub record Readable (n : ℕ) (ws : List ℕ) : Type 0 where
  pub within : n ≤ length ws
  pub short : length ws ≤ 2 ^ 20
