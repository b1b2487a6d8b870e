use Rattle.std.proofs.Common.{[], ◌∷◌, ◌+◌, length, lit≤, arith}
use Rattle.page_model.proofs.StepLemmas.{may_within}
use Rattle.row_dir.specs.Slots.{keyed_of}
use Rattle.row_dir.proofs.OpenLemmas.{started}
use Rattle.row_dir.proofs.opening.start_page.Goals as goal

pub write_slot-requires-clause-may : goal.write_slot-requires-clause-may
write_slot-requires-clause-may g c =
    let page = c.args.page.0 in
    may_within (page ∷ []) (page ∷ []) 0 16_440 0 (length c.fill_page.new.bytes + 8) 0 48 c.args.p.now c.write.new.self (λ n is. is) (lit≤ tt) (let l = c.fill_page.ensures.len in omega (arith, l)) c.requires.may c.write.ensures.uses

pub returns-clause-starts : goal.returns-clause-starts
returns-clause-starts g c =
    started _ _ _ _ c.args.page.0 c.fill_page.new.bytes (keyed_of c.args.row.now) (g.P.Pages.whole c.args.p.now) c.requires.page c.fill_page.ensures.len
    (record { header = c.fill_page.ensures.header; count = c.fill_page.ensures.count; zeros = c.fill_page.ensures.zeros }) c.in_ok-write.ensures.written c.in_ok-write_slot.ensures.sets
