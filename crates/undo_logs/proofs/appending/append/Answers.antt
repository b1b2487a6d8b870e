use Rattle.std.proofs.Common.{[], ◌∷◌, lit≤, arith, ◌∙◌, ℕ, Bool, ap, subst, ◌+◌, ◌≤◌}
use Rattle.page_model.specs.Steps.{Becomes}
use Rattle.page_model.proofs.StepLemmas.{may_within, uses_at_most}
use Rattle.page_space.specs.Map.{free_of}
use Rattle.engine_base.specs.Addresses.{address_of}
use Rattle.undo_model.specs.Data.{pointer}
use Rattle.undo_model.specs.Bytes.{record_size}
use Rattle.undo_records.specs.Records.{record_of}
use Rattle.undo_logs.specs.Places.{IsPlaced}
use Rattle.undo_logs.proofs.UseLemmas.{append1, append2, append2_named, append3, may_put}
use Rattle.undo_logs.proofs.AppendedLemmas.{append_told}
use Rattle.undo_logs.proofs.appending.append.Goals as goal

pub place-requires-clause-may : goal.place-requires-clause-may
place-requires-clause-may g c =
    let n = record_size (record_of c.args.rec.now) in
    may_within (c.args.log.0 ∷ 0 ∷ []) (c.args.log.0 ∷ 0 ∷ []) 3 (n + 185) 0 0 3 153 c.args.p.now c.previous_of.new.p (λ m is. is) (lit≤ tt) (omega arith) c.requires.may
    (append1 g.P.Pages.stays_on c.args.log.0 0 n _ _ c.previous_of.ensures.uses)

pub returns-in_err-at-clause-uses : goal.returns-in_err-at-clause-uses
returns-in_err-at-clause-uses g c =
    let n = record_size (record_of c.args.rec.now) in
    uses_at_most (c.args.log.0 ∷ 0 ∷ []) 3 153 3 (n + 185) c.args.p.now c.place.new.p (lit≤ tt) (omega arith)
    (append2 g.P.Pages.stays_on c.args.log.0 0 n _ _ _ c.previous_of.ensures.uses c.place.ensures.uses)

pub put_record-requires-clause-may : goal.put_record-requires-clause-may
put_record-requires-clause-may g c =
    let n = record_size (record_of c.args.rec.now) in
    may_put c.args.log.0 c.in_ok-at.at.page.0 n c.args.p.now c.place.new.p c.requires.may (append2_named g.P.Pages.stays_on c.args.log.0 c.in_ok-at.at.page.0 n _ _ _ c.previous_of.ensures.uses c.in_ok-at.ensures.named)

pub returns-in_err-put_record-clause-uses : goal.returns-in_err-put_record-clause-uses
returns-in_err-put_record-clause-uses g c = append3 g.P.Pages.stays_on c.args.log.0 c.in_ok-at.at.page.0 (record_size (record_of c.args.rec.now)) _ _ _ _ c.previous_of.ensures.uses c.in_ok-at.ensures.named c.put_record.ensures.uses

pub returns-clause-uses : goal.returns-clause-uses
returns-clause-uses g c = append3 g.P.Pages.stays_on c.args.log.0 c.in_ok-at.at.page.0 (record_size (record_of c.args.rec.now)) _ _ _ _ c.previous_of.ensures.uses c.in_ok-at.ensures.named c.put_record.ensures.uses

pub returns-clause-appends : goal.returns-clause-appends
returns-clause-appends g c = λ pages l is same can covered count.
    let a = address_of c.in_ok-at.at in
    let r = record_of c.args.rec.now in
    let placed = subst (λ (n : ℕ). Becomes (g.P.Pages.state c.place.new.p).told (λ new. IsPlaced l n a pages new × (c.place.new.space ≤ free_of new))) c.size.ensures.value
    (c.in_ok-at.ensures.places pages l (c.previous_of.ensures.told ∙ is) same can covered) in
    append_told (g.P.Pages.state c.args.p.now).told _ _ pages l r c.args.log.0 c.pointer.result.0 c.place.new.space a (address_of c.in_ok-previous.previous) is same can count c.in_ok-previous.ensures.value placed
    c.in_ok-put_record.ensures.puts (c.pointer.ensures ∙ ap (λ (b : Bool). pointer b a) c.is_insert.ensures)
