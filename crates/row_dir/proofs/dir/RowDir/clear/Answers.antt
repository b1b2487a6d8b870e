use Rattle.std.proofs.Common.{◌-◌, None}
use Rattle.page_model.proofs.StepLemmas.{told_step}
use Rattle.engine_base.specs.Addresses.{address_of}
use Rattle.row_dir.specs.RowPages.{SetsSlotTo}
use Rattle.row_dir.proofs.RemoveLemmas.{cleared}
use Rattle.row_dir.proofs.dir.RowDir.clear.Goals as goal

pub returns-clause-removes : goal.returns-clause-removes
returns-clause-removes g c = λ pages rows is stands d can.
    let b = told_step (SetsSlotTo (address_of c.args.place) None (407 - c.args.free)) _ _ pages is c.in_ok-clear_slot.ensures.sets in
    (b.0, b.1, cleared pages b.0 rows c.args.self.now c.free_up.new.self c.forget.new.self c.args.doc c.args.place c.args.free stands can d c.requires.has c.requires.free c.requires.others b.2 c.free_up.ensures c.forget.ensures)
