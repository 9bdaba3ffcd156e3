use mathlib.Core.Path.{sym, ◌∙◌}
use mathlib.Core.Bool.{true≢false}
use borrow.Author.Tests.{ltb-true}
use Rattle.cuts.proofs.ByKind.{is_set, opens}
use Rattle.sets.specs.Search.{leaves_financing}
use Rattle.sets.proofs.SearchLaws.{no_set_below}
use Rattle.sets.proofs.FoundLaws.{place_or_end}
use Rattle.sets.proofs.search.search.Goals as goal

pub returns-in-Set : goal.returns-in-Set
returns-in-Set c =
    rw c.in-Set.is (c.unwrap_or.ensures ∙ place_or_end _ _ _ (c.search_by.ensures is_set (λ w r h. h) (λ bits h w l. no_set_below w bits l (ltb-true _ _ (sym h)))))

pub returns-in-EndOfDerivatives : goal.returns-in-EndOfDerivatives
returns-in-EndOfDerivatives c =
    rw c.in-EndOfDerivatives.is (c.unwrap_or-in-EndOfDerivatives.ensures ∙ place_or_end _ _ _ (c.search_by-in-EndOfDerivatives.ensures opens (λ w r h. h) (λ bits h w l. absurd (true≢false h))))

pub returns-in-EndOfFinancing : goal.returns-in-EndOfFinancing
returns-in-EndOfFinancing c =
    rw c.in-EndOfFinancing.is (c.unwrap_or-in-EndOfFinancing.ensures ∙ place_or_end _ _ _ (c.search_by-in-EndOfFinancing.ensures leaves_financing (λ w r h. h) (λ bits h w l. absurd (true≢false h))))
