-- All of acceptance but the covers: a book that is not too long, whose head and date are good and whose reading ends without a fault, with rows
-- and entries enough. Assumes nothing.
use Rattle.std.specs.Prelude.{ℕ, ◌≤◌, ◌^◌, ◌≡◌, false, List, length}
use Rattle.rules.specs.Book.{Placed}
use Rattle.rules.specs.Read.{head_faulty, date_faulty, head_of, items_of}

-- with so many rows and entries it is read as these items
pub record ReadAs (ws : List ℕ) (rows entries : ℕ) (items : List Placed) : Type 0 where
  pub rows_enough : 22 ≤ rows
  pub short : length ws ≤ 2 ^ 20
  pub head : head_faulty ws ≡ false
  pub date : date_faulty ws ≡ false
  pub room : (head_of ws).protections ≤ entries
  pub number : (items_of ws).number ≡ 0
  pub read : (items_of ws).records ≡ items
