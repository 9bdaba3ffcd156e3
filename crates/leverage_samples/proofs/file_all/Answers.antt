-- With its level and type written out the lemma is compared by its arguments, and the array's length is not computed word by word.
use Rattle.std.proofs.Common.{sym, ℕ}
use Rattle.std.proofs.lemmas.List.{length-replicate}
use Rattle.leverage_samples.proofs.file_all.Goals as goal

pub slice_bounds-buffers-end-2 : goal.slice_bounds-buffers-end-2
slice_bounds-buffers-end-2 g c = sym (length-replicate {0} {A = ℕ} 1048577 0)
