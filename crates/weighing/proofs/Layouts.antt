-- The words of a record that were read at a place are the record that Read finds there. Assumes nothing.
use Prim.Native.Nat.{ℕ}
use mathlib.Core.Path.{◌≡◌, ap}
use mathlib.Core.List.{List, []}
use Rattle.rules.specs.Read.{trade_at, written_at}
use Rattle.weighing.specs.declared.read.TradeWords.{TradeWords}
use Rattle.weighing.specs.declared.read.WrittenWords.{WrittenWords}
use Rattle.weighing.specs.Words.{trade_words, trade_of, written_words, written_of}

module _ (ws : List ℕ) (at : ℕ) where
  pub trade_laid : {t : TradeWords} → t ≡ trade_words ws at → trade_of t ≡ trade_at ws at
  unfolding trade_at
  trade_laid q = ap trade_of q

  pub written_laid : {w : WrittenWords} → w ≡ written_words ws at → written_of w ≡ written_at ws at []
  unfolding written_at
  written_laid q = ap written_of q
