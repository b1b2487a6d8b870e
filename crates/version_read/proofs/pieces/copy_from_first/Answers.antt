use Rattle.std.proofs.Common.{[], ◌∷◌, ℕ, option_map, sym, ap, ◌∙◌, lit≤}
use Rattle.page_model.specs.Steps.{IsWithin}
use Rattle.page_model.proofs.StepLemmas.{may_name, may_within, may_less, uses_within, uses_more, uses_unnamed, uses_at_most, within_both}
use Rattle.engine_base.specs.Addresses.{address_of}
use Rattle.file_lists.proofs.LinkLemmas.{handed_on}
use Rattle.store_data.specs.Store.{Row as StoreRow}
use Rattle.version_read.proofs.PiecesLemmas.{lent, stands, under_on, at_on, piece_by, past_by, begins_first}
use Rattle.version_read.proofs.pieces.copy_from_first.Goals as goal

once : (h : ℕ) → IsWithin (h ∷ h ∷ []) (h ∷ [])
once h = within_both (h ∷ []) (h ∷ []) (h ∷ []) (λ n is. is) (λ n is. is)

pub returns-in_err-head-clause-never : goal.returns-in_err-head-clause-never
returns-in_err-head-clause-never g c = λ pages store sees shown u.
    let s = stands c.requires.phase u in
    handed_on c.first_head.result _ _ (c.first_head.ensures.never pages
    (lent c.requires.phase u).lob u.told'
    (s.first ∙ sym (ap (λ (r : StoreRow). r.lob.page) c.present_row-row.ensures)) s.is)
    c.in_err-head.was c.from_residual.ensures

pub look_at-requires-clause-may : goal.look_at-requires-clause-may
look_at-requires-clause-may g c =
    let h = c.in-Some.head.page.0 in
    may_less (h ∷ []) (h ∷ h ∷ []) 10 10 0 0 _ (may_name h [] 10 0 _
    (may_within [] [] 16 0 5 0 11 0 _ _ (λ n is. is) (lit≤ tt) (lit≤ tt) c.requires.may
    c.first_head.ensures.uses)) (once h) (lit≤ tt) (lit≤ tt)

pub end_pieces-requires-clause-may : goal.end_pieces-requires-clause-may
end_pieces-requires-clause-may g c =
    may_within [] [] 16 0 5 0 1 0 _ _ (λ n is. is) (lit≤ tt) (lit≤ tt) c.requires.may
    c.first_head.ensures.uses

pub returns-in-Some-clause-copies : goal.returns-in-Some-clause-copies
returns-in-Some-clause-copies g c = λ pages store sees shown u.
    let phase = c.requires.phase in
    let s = stands phase u in
    let l = lent phase u in
    let link = c.in_ok-head.ensures.value pages l.lob u.told'
    (s.first ∙ sym (ap (λ (r : StoreRow). r.lob.page) c.present_row-row.ensures)) s.is in
    let at = piece_by phase u (address_of c.in-Some.head)
    (sym link ∙ ap (option_map address_of) c.in-Some.is) in
    c.look_at.ensures.copies pages store sees shown (at_on c.first_head.ensures.told at)
    (begins_first phase at (l.start c.requires.head))

pub returns-in-Some-clause-never : goal.returns-in-Some-clause-never
returns-in-Some-clause-never g c = λ pages store sees shown u.
    let phase = c.requires.phase in
    let s = stands phase u in
    let l = lent phase u in
    let link = c.in_ok-head.ensures.value pages l.lob u.told'
    (s.first ∙ sym (ap (λ (r : StoreRow). r.lob.page) c.present_row-row.ensures)) s.is in
    let at = piece_by phase u (address_of c.in-Some.head)
    (sym link ∙ ap (option_map address_of) c.in-Some.is) in
    c.look_at.ensures.never pages store sees shown (at_on c.first_head.ensures.told at)
    (begins_first phase at (l.start c.requires.head))

pub returns-in-Some-clause-uses : goal.returns-in-Some-clause-uses
returns-in-Some-clause-uses g c =
    let h = c.in-Some.head.page.0 in
    uses_within g.P.Pages.stays_on [] [] 5 0 11 0 _ _ _ (λ n is. is) c.first_head.ensures.uses
    (uses_unnamed h [] 10 0 _ _ (uses_more (h ∷ h ∷ []) (h ∷ []) 10 10 0 0 _ _
    c.look_at.ensures.uses (once h) (lit≤ tt) (lit≤ tt)))

pub returns-in-None-clause-copies : goal.returns-in-None-clause-copies
returns-in-None-clause-copies g c = λ pages store sees shown u.
    let phase = c.requires.phase in
    let s = stands phase u in
    let l = lent phase u in
    let link = c.in_ok-head.ensures.value pages l.lob u.told'
    (s.first ∙ sym (ap (λ (r : StoreRow). r.lob.page) c.present_row-row.ensures)) s.is in
    c.end_pieces.ensures.copies pages store sees shown (under_on c.first_head.ensures.told u)
    (past_by phase u (sym (ap (option_map address_of) c.in-None.is) ∙ link))

pub returns-in-None-clause-never : goal.returns-in-None-clause-never
returns-in-None-clause-never g c = λ pages store sees shown u.
    c.end_pieces.ensures.never pages store sees shown (under_on c.first_head.ensures.told u)

pub returns-in-None-clause-uses : goal.returns-in-None-clause-uses
returns-in-None-clause-uses g c =
    uses_at_most [] 6 0 16 0 _ _ (lit≤ tt) (lit≤ tt)
    (uses_within g.P.Pages.stays_on [] [] 5 0 1 0 _ _ _ (λ n is. is) c.first_head.ensures.uses
    c.end_pieces.ensures.uses)
