-- Document 01, "Weighing a set": the weighted add-on (annex, paragraphs 8 to 10). Assumes nothing.
use Rattle.std.specs.Prelude.{ℕ, ◌+◌, ◌*◌, ◌/◌, ◌%◌, min, cond, eqb}

-- a / b rounded up
abbrev pub ceil : ℕ → ℕ → ℕ
ceil a b = a / b + min 1 (a % b)

-- the parts of 5G that are kept: 2G + 3N
abbrev pub parts : (gross net : ℕ) → ℕ
parts gross net = 2 * gross + 3 * net

-- "X times (2G + 3N) / 5G, rounded up once; X if G is 0"
unfoldable pub weighted_of : (x gross net : ℕ) → ℕ
weighted_of x gross net = cond (eqb gross 0) x (ceil (x * parts gross net) (5 * gross))
