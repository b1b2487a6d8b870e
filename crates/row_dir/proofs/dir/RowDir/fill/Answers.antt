use Rattle.std.proofs.Common.{[], ◌∷◌, ◌-◌, Some, refl, lit≤, ◌∙◌}
use Rattle.page_model.proofs.StepLemmas.{may_within, told_step}
use Rattle.file_lists.proofs.LinkLemmas.{handed_on}
use Rattle.engine_base.specs.Addresses.{address_of}
use Rattle.engine_base.specs.declared.addr.Addr.{Addr}
use Rattle.row_dir.specs.Slots.{keyed_of}
use Rattle.row_dir.specs.RowPages.{SetsSlotTo}
use Rattle.row_dir.proofs.PutLemmas.{filled_first, open_slots}
use Rattle.lob_index.proofs.HonestLemmas.{honest_on}
use Rattle.row_dir.proofs.HonestLemmas.{fill_odd}
use Rattle.row_dir.proofs.dir.RowDir.fill.Goals as goal

pub returns-in_err-at-clause-honest : goal.returns-in_err-at-clause-honest
returns-in_err-at-clause-honest g c =
    honest_on _ _ c.free_slot.result _ _ (fill_odd c.args.self.now (g.P.Pages.state c.args.p.now).told c.args.open.page.0 c.args.open.free c.requires.has c.requires.some) c.free_slot.ensures.honest c.in_err-at.was c.from_residual.ensures

pub fill_slot-requires-clause-may : goal.fill_slot-requires-clause-may
fill_slot-requires-clause-may g c =
    let page = c.args.open.page.0 in
    may_within (page ∷ []) (page ∷ []) 0 58 0 0 0 58 c.args.p.now c.free_slot.new.p (λ n is. is) (lit≤ tt) (lit≤ tt) c.requires.may c.free_slot.ensures.uses

pub returns-in_err-at-clause-never : goal.returns-in_err-at-clause-never
returns-in_err-at-clause-never g c = λ pages rows is stands d can first.
    let s = open_slots pages rows c.args.self.now c.args.open.index c.args.open.page.0 c.args.open.free stands d first in
    handed_on c.free_slot.result _ _ (c.free_slot.ensures.never pages s.0 is s.1 s.2 s.3) c.in_err-at.was c.from_residual.ensures

pub returns-clause-puts : goal.returns-clause-puts
returns-clause-puts g c = λ pages rows is stands d can first.
    let place : Addr = record { page = c.args.open.page; at = c.in_ok-at.at } in
    let b = told_step (SetsSlotTo (address_of place) (Some (keyed_of c.args.row.now)) (409 - c.args.open.free)) _ _ pages (c.free_slot.ensures.told ∙ is) c.in_ok-fill_slot.ensures.sets in (
      b.0,
      b.1,
      filled_first pages b.0 rows c.args.self.now c.note.new.self (keyed_of c.args.row.now) c.args.row.now.doc place c.args.open.index c.args.open.free (409 - c.args.open.free) stands can d first
          (λ slots are many. c.in_ok-at.ensures.value pages slots is are many) b.2 refl c.requires.absent refl c.note.ensures,
    )
