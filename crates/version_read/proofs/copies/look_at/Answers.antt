use Rattle.std.proofs.Common.{[], ◌∷◌, refl, sym, ap, ◌∙◌, lit≤}
use Rattle.page_model.proofs.StepLemmas.{may_within, uses_within, uses_more, within_one, within_two}
use Rattle.engine_base.specs.Addresses.{address_of}
use Rattle.file_lists.proofs.LinkLemmas.{handed_on}
use Rattle.lob_versions.specs.Found.{found_of}
use Rattle.store_data.specs.Store.{Row as StoreRow}
use Rattle.version_read.proofs.SearchLemmas.{found_more, found_gone}
use Rattle.version_read.proofs.PiecesLemmas.{at_on, search_at, found_placed, finds_there, looks_on, not_gone}
use Rattle.version_read.proofs.copies.look_at.Goals as goal

pub returns-in_err-entry-clause-never : goal.returns-in_err-entry-clause-never
returns-in_err-entry-clause-never g c = λ pages store sees shown at b.
    handed_on c.find_version.result _ _ (c.find_version.ensures.never pages at.lob at.piece b.x
    b.rest (search_at c.requires.phase at (address_of c.args.from) b)) c.in_err-entry.was
    c.from_residual.ensures

pub returns-in_err-entry-clause-uses : goal.returns-in_err-entry-clause-uses
returns-in_err-entry-clause-uses g c =
    let f = c.args.from.page.0 in
    let h = c.args.head.page.0 in
    uses_more (f ∷ []) (f ∷ h ∷ []) 7 10 0 0 _ _ c.find_version.ensures.uses
    (within_one f (h ∷ [])) (lit≤ tt) (lit≤ tt)

pub copy_version-requires-clause-may : goal.copy_version-requires-clause-may
copy_version-requires-clause-may g c =
    let f = c.args.from.page.0 in
    let h = c.args.head.page.0 in
    may_within (f ∷ h ∷ []) (h ∷ []) 10 0 7 0 3 0 _ _ (within_two f h []) (lit≤ tt) (lit≤ tt)
    c.requires.may (uses_more (f ∷ []) (f ∷ h ∷ []) 7 7 0 0 _ _ c.find_version.ensures.uses
    (within_one f (h ∷ [])) (lit≤ tt) (lit≤ tt))

pub returns-in-At-clause-copies : goal.returns-in-At-clause-copies
returns-in-At-clause-copies g c = λ pages store sees shown at b.
    let phase = c.requires.phase in
    let from = address_of c.args.from in
    let found = c.in_ok-entry.ensures.finds pages at.lob at.piece b.x b.rest
    (search_at phase at from b) in
    let v = ap (λ (r : StoreRow). r.lob.version) c.present_row-row.ensures in
    let finds = finds_there phase at (address_of c.in-At.entry) (found_placed phase at from b _ _
    (sym (ap found_of c.in-At.is) ∙ found) v) in
    c.copy_version.ensures.copies pages store sees shown (at_on c.find_version.ensures.told at) finds

pub returns-in-At-clause-never : goal.returns-in-At-clause-never
returns-in-At-clause-never g c = λ pages store sees shown at b.
    let phase = c.requires.phase in
    let from = address_of c.args.from in
    let found = c.in_ok-entry.ensures.finds pages at.lob at.piece b.x b.rest
    (search_at phase at from b) in
    let v = ap (λ (r : StoreRow). r.lob.version) c.present_row-row.ensures in
    let finds = finds_there phase at (address_of c.in-At.entry) (found_placed phase at from b _ _
    (sym (ap found_of c.in-At.is) ∙ found) v) in
    c.copy_version.ensures.never pages store sees shown (at_on c.find_version.ensures.told at) finds

pub returns-in-At-clause-uses : goal.returns-in-At-clause-uses
returns-in-At-clause-uses g c =
    let f = c.args.from.page.0 in
    let h = c.args.head.page.0 in
    uses_within g.P.Pages.stays_on (f ∷ h ∷ []) (h ∷ []) 7 0 3 0 _ _ _ (within_two f h [])
    (uses_more (f ∷ []) (f ∷ h ∷ []) 7 7 0 0 _ _ c.find_version.ensures.uses
    (within_one f (h ∷ [])) (lit≤ tt) (lit≤ tt)) c.copy_version.ensures.uses

pub returns-in-More-clause-copies : goal.returns-in-More-clause-copies
returns-in-More-clause-copies g c = λ pages store sees shown at b.
    let phase = c.requires.phase in
    let from = address_of c.args.from in
    let found = c.in_ok-entry.ensures.finds pages at.lob at.piece b.x b.rest
    (search_at phase at from b) in
    let v = ap (λ (r : StoreRow). r.lob.version) c.present_row-row.ensures in
    let more = found_more _ (address_of c.in-More.node) (found_placed phase at from b _ _
    (sym (ap found_of c.in-More.is) ∙ found) v) in
    let n = c.note_node.ensures in
    looks_on phase at c.note_node.new.flight c.args.head c.in-More.node refl more n.read n.head
    n.row.0 n.row.1 n.of.2 n.of.3 n.of.4

pub returns-in-More-clause-uses : goal.returns-in-More-clause-uses
returns-in-More-clause-uses g c =
    let f = c.args.from.page.0 in
    let h = c.args.head.page.0 in
    uses_more (f ∷ []) (f ∷ h ∷ []) 7 10 0 0 _ _ c.find_version.ensures.uses
    (within_one f (h ∷ [])) (lit≤ tt) (lit≤ tt)

pub returns-in-Gone-clause-never : goal.returns-in-Gone-clause-never
returns-in-Gone-clause-never g c = λ pages store sees shown at b.
    let phase = c.requires.phase in
    let from = address_of c.args.from in
    let found = c.in_ok-entry.ensures.finds pages at.lob at.piece b.x b.rest
    (search_at phase at from b) in
    let v = ap (λ (r : StoreRow). r.lob.version) c.present_row-row.ensures in
    absurd (not_gone phase at (found_gone _ (found_placed phase at from b _ _
    (sym (ap found_of c.in-Gone.is) ∙ found) v)))

pub returns-in-Gone-clause-uses : goal.returns-in-Gone-clause-uses
returns-in-Gone-clause-uses g c =
    let f = c.args.from.page.0 in
    let h = c.args.head.page.0 in
    uses_more (f ∷ []) (f ∷ h ∷ []) 7 10 0 0 _ _ c.find_version.ensures.uses
    (within_one f (h ∷ [])) (lit≤ tt) (lit≤ tt)
