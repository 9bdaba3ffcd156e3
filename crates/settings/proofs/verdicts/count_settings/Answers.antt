use native.Mathlib.Omega.{arith}
use Rattle.settings.proofs.SettingLaws.{head_within, set_readable, date_within, members_sure, tally_fit, pieces_known_fit, filed_within, each_fits, settings_counted}
use Rattle.settings.proofs.AnswerLaws.{chosen_fits}
use Rattle.settings.proofs.verdicts.count_settings.Goals as goal

pub offset_bounds-book-head : goal.offset_bounds-book-head
offset_bounds-book-head c = let w = head_within _ _ _ _ c.requires.chosen in omega (arith, w.0, w.1)

pub slice_bounds-part-count : goal.slice_bounds-part-count
slice_bounds-part-count c = (head_within _ _ _ _ c.requires.chosen).0

pub slice_bounds-part-start : goal.slice_bounds-part-start
slice_bounds-part-start c = let w = head_within _ _ _ _ c.requires.chosen in omega (arith, w.0, w.1)

pub read-d-requires : goal.read-d-requires
read-d-requires c = set_readable _ _ _ _ c.requires.chosen

pub bands_of_date-requires : goal.bands_of_date-requires
bands_of_date-requires c = date_within _ _ _ _ c.requires.chosen c.word_at.ensures

pub tally_of-t-requires : goal.tally_of-t-requires
tally_of-t-requires c = members_sure _ _ _ _ c.requires.chosen c.word_at.ensures c.bands_of_date.ensures

pub pieces_of-p-requires : goal.pieces_of-p-requires
pieces_of-p-requires c = tally_fit _ _ _ _ c.requires.chosen c.word_at.ensures c.bands_of_date.ensures c.tally_of-t.ensures

pub exposure-requires : goal.exposure-requires
exposure-requires c = chosen_fits _ _ _ _ c.requires.chosen

pub exposed-requires : goal.exposed-requires
exposed-requires c = pieces_known_fit _ _ _ _ c.requires.chosen c.word_at.ensures c.bands_of_date.ensures c.tally_of-t.ensures c.read-d.ensures c.pieces_of-p.ensures

pub overflow_sub-others : goal.overflow_sub-others
overflow_sub-others c = filed_within _ _ _ _ c.requires.chosen c.word_at.ensures c.bands_of_date.ensures c.tally_of-t.ensures c.read-d.ensures c.pieces_of-p.ensures c.exposure.ensures c.exposed.ensures

pub count_each-requires : goal.count_each-requires
count_each-requires c = each_fits _ _ _ _ c.requires.chosen c.word_at.ensures c.bands_of_date.ensures c.tally_of-t.ensures c.read-d.ensures c.pieces_of-p.ensures c.exposure.ensures c.exposed.ensures

pub returns : goal.returns
returns c register chosen = settings_counted _ _ _ _ chosen c.word_at.ensures c.bands_of_date.ensures c.tally_of-t.ensures c.read-d.ensures c.pieces_of-p.ensures c.exposure.ensures c.exposed.ensures c.tier1.ensures.0 c.tier1.ensures.1 c.count_each.ensures
