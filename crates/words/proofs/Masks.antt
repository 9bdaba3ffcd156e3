-- Bits and fields at the edges of a word of 32 bits: beyond its last bit it has nothing but 0. Assumes nothing.
use mathlib.Core.Path.{◌≡◌}
use mathlib.Core.Bool.{false}
use Prim.Native.Nat.{ℕ, ◌*◌, ◌/◌, ◌%◌, ◌^◌, ◌≤◌, ◌<◌}
use native.Mathlib.Nat.{lt_of_lt_of_le, lt_of_le_of_lt, div-eq_of_lt, div-le_self, mod-eq_of_lt, one-mul, zero-mod}
use lib.Pow.{pow-lt, pow_mono}
use lib.Bits.{and_mask}
use Rattle.rules.specs.Word.{bit_of, field_of}

beyond : (k w : ℕ) → w < 2 ^ 32 → 32 ≤ k → w / 2 ^ k ≡ 0
beyond k w h 32≤k = div-eq_of_lt (lt_of_lt_of_le h (pow_mono 32≤k))

pub bit_beyond : (k w : ℕ) → w < 2 ^ 32 → 32 ≤ k → bit_of k w ≡ false
bit_beyond k w h 32≤k = rw (beyond k w h 32≤k)

pub field_beyond : (low count w : ℕ) → w < 2 ^ 32 → 32 ≤ low → field_of low count w ≡ 0
field_beyond low count w h 32≤low = rw (beyond low w h 32≤low) (zero-mod (2 ^ count))

-- so many bits as the word has, or more
pub field_whole : (low count w : ℕ) → w < 2 ^ 32 → 32 ≤ count → field_of low count w ≡ w / 2 ^ low
field_whole low count w h 32≤count =
    mod-eq_of_lt (lt_of_lt_of_le (lt_of_le_of_lt (div-le_self w (2 ^ low)) h) (pow_mono 32≤count))

-- a shift of 1 by less than 32 loses nothing
pub shifted_one : (count : ℕ) → count < 32 → 1 * 2 ^ count % 2 ^ 32 ≡ 2 ^ count
shifted_one count h = rw one-mul (mod-eq_of_lt (pow-lt h))

-- what a field goes by
pub ruleset field_steps = (field_beyond, field_whole, shifted_one, and_mask)
