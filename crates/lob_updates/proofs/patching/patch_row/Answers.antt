use Rattle.std.proofs.Common.{◌≡◌, ℕ, ◌+◌, ◌≤◌, List, [], ◌∷◌, ◌++◌, length, map, Some, sym, ap, subst, ◌∙◌, lit≤, arith}
use Rattle.std.specs.Option.{option_map}
use Rattle.page_model.specs.Pages.{all_written}
use Rattle.page_model.specs.Steps.{IsWithin}
use Rattle.page_model.proofs.StepLemmas.{may_less, may_within, uses_more, uses_within, within_left, within_right}
use Rattle.file_lists.proofs.LinkLemmas.{handed_on, at_told}
use Rattle.lob_index.proofs.AnswerLemmas.{on_ok}
use Rattle.store_data.specs.Store.{Run}
use Rattle.undo_records.specs.Views.{run_of}
use Rattle.undo_records.specs.Records.{row_of as row_there}
use Rattle.store_model.specs.History.{row_before}
use Rattle.store_model.specs.Moves.{ArePaired}
use Rattle.store_parts.specs.Shows.{row_of}
use Rattle.store_pages.specs.Runs.{writes_of}
use Rattle.store_steps.specs.Runs.{run_pages, laid_room}
use Rattle.store_steps.proofs.RunLemmas.{may_few_on, uses_few_on, few_bytes, length_runs}
use Rattle.transactions.specs.Keeping.{CanKeep}
use Rattle.lob_updates.specs.Patches.{runs_there}
use Rattle.lob_updates.proofs.PatchLemmas.{patch_made', free_after}
use Rattle.lob_updates.proofs.patching.patch_row.Goals as goal

pub read_old-requires-clause-may : goal.read_old-requires-clause-may
read_old-requires-clause-may g c =
    let ns = run_pages c.args.runs.now in
    let ms = c.args.trx.now.log.0 ∷ 0 ∷ [] in
    may_less (ns ++ ms) ns 5 0 18466 0 _ (may_few_on ns ms 4 5 18466 _ c.requires.few c.requires.may)
    (within_left ns ms) (lit≤ tt) (lit≤ tt)

pub returns-in_err-old-clause-uses : goal.returns-in_err-old-clause-uses
returns-in_err-old-clause-uses g c =
    let ns = run_pages c.args.runs.now in
    let ms = c.args.trx.now.log.0 ∷ 0 ∷ [] in
    uses_few_on ns ms 4 5 18466 _ _ c.requires.few
    (uses_more ns (ns ++ ms) 0 5 0 18466 _ _ c.read_old.ensures.uses (within_left ns ms) (lit≤ tt) (lit≤ tt))

pub record_change-requires-clause-may : goal.record_change-requires-clause-may
record_change-requires-clause-may g c =
    let ns = run_pages c.args.runs.now in
    let ms = c.args.trx.now.log.0 ∷ 0 ∷ [] in
    may_within (ns ++ ms) ms 5 18466 0 0 5 17566 c.args.p.now c.read_old.new.p (within_right ns ms) (lit≤ tt) (lit≤ tt)
    (may_few_on ns ms 4 5 18466 _ c.requires.few c.requires.may)
    (uses_more ns (ns ++ ms) 0 0 0 0 _ _ c.read_old.ensures.uses (within_left ns ms) (lit≤ tt) (lit≤ tt))

pub returns-in_err-record_change-clause-uses : goal.returns-in_err-record_change-clause-uses
returns-in_err-record_change-clause-uses g c =
    let ns = run_pages c.args.runs.now in
    let ms = c.args.trx.now.log.0 ∷ 0 ∷ [] in
    uses_few_on ns ms 4 5 18466 _ _ c.requires.few
    (uses_more (ns ++ ms) (ns ++ ms) 5 5 17566 18466 _ _
    (uses_within g.P.Pages.stays_on (ns ++ ms) ms 0 0 5 17566 c.args.p.now c.read_old.new.p c.record_change.new.p
    (within_right ns ms)
    (uses_more ns (ns ++ ms) 0 0 0 0 _ _ c.read_old.ensures.uses (within_left ns ms) (lit≤ tt) (lit≤ tt))
    c.record_change.ensures.uses) (λ n is. is) (lit≤ tt) (lit≤ tt))

pub lay_runs-requires-clause-may : goal.lay_runs-requires-clause-may
lay_runs-requires-clause-may g c =
    let ns = run_pages c.args.runs.now in
    let ms = c.args.trx.now.log.0 ∷ 0 ∷ [] in
    let rs = map run_of c.as_slice.result.now in
    let many : length rs ≤ 100 =
    (let e = length_runs run_of c.as_slice.result.now in let m = c.as_slice.ensures.most in omega (arith, e, m)) in
    let room = few_bytes rs many c.as_slice.ensures.small in
    let within : IsWithin (run_pages rs) (ns ++ ms) =
    subst (λ (xs : List Run). IsWithin (run_pages xs) (ns ++ ms)) (sym c.as_slice.ensures.value) (within_left ns ms) in
    may_within (ns ++ ms) (run_pages rs) 5 18466 5 17566 0 (laid_room rs) c.args.p.now c.record_change.new.p within
    (lit≤ tt) (omega (arith, room))
    (may_few_on ns ms 4 5 18466 _ c.requires.few c.requires.may)
    (uses_within g.P.Pages.stays_on (ns ++ ms) ms 0 0 5 17566 c.args.p.now c.read_old.new.p c.record_change.new.p
    (within_right ns ms)
    (uses_more ns (ns ++ ms) 0 0 0 0 _ _ c.read_old.ensures.uses (within_left ns ms) (lit≤ tt) (lit≤ tt))
    c.record_change.ensures.uses)

pub returns-clause-uses : goal.returns-clause-uses
returns-clause-uses g c =
    let ns = run_pages c.args.runs.now in
    let ms = c.args.trx.now.log.0 ∷ 0 ∷ [] in
    let rs = map run_of c.as_slice.result.now in
    let many : length rs ≤ 100 =
    (let e = length_runs run_of c.as_slice.result.now in let m = c.as_slice.ensures.most in omega (arith, e, m)) in
    let room = few_bytes rs many c.as_slice.ensures.small in
    let within : IsWithin (run_pages rs) (ns ++ ms) =
    subst (λ (xs : List Run). IsWithin (run_pages xs) (ns ++ ms)) (sym c.as_slice.ensures.value) (within_left ns ms) in
    uses_few_on ns ms 4 5 18466 _ _ c.requires.few
    (uses_more (ns ++ ms) (ns ++ ms) 5 5 (17566 + laid_room rs) 18466 _ _
    (uses_within g.P.Pages.stays_on (ns ++ ms) (run_pages rs) 5 17566 0 (laid_room rs) c.args.p.now
    c.record_change.new.p c.lay_runs.new.p within
    (uses_within g.P.Pages.stays_on (ns ++ ms) ms 0 0 5 17566 c.args.p.now c.read_old.new.p c.record_change.new.p
    (within_right ns ms)
    (uses_more ns (ns ++ ms) 0 0 0 0 _ _ c.read_old.ensures.uses (within_left ns ms) (lit≤ tt) (lit≤ tt))
    c.record_change.ensures.uses) c.lay_runs.ensures.uses) (λ n is. is) (lit≤ tt) (omega (arith, room)))

pub returns-in_err-record_change-clause-never : goal.returns-in_err-record_change-clause-never
returns-in_err-record_change-clause-never g c = λ there pages store l may e keep.
    let keep' = subst (λ (k : ℕ). CanKeep k (row_before store c.args.before.now.doc.0))
    (sym c.read_old.ensures.uses.count) keep in
    handed_on c.record_change.result _ _
    (c.record_change.ensures.never there pages store l
    (c.read_old.ensures.told ∙ (let a = may.at in a.told')) (let a = may.at in a.stands) may.work e keep'
    may.directory may.covered) c.in_err-record_change.was c.from_residual-in_err-record_change.ensures

pub returns-clause-patches : goal.returns-clause-patches
returns-clause-patches g c = λ there pages store l m may e can.
    let told = (g.P.Pages.state c.args.p.now).told in
    let trx = c.args.trx.now.id.0 in
    let log = c.args.trx.now.log.0 in
    let n = c.args.trx.now.records.0 in
    let d = c.args.before.now.doc.0 in
    let runs = c.args.runs.now in
    let old = c.in_ok-old.old in
    let told' = (let a = may.at in a.told') in
    let r = c.in_ok-old.ensures.reads in
    let is : old ≡ runs_there pages runs =
    r.is ∙ at_told told (λ ps. r.read ≡ runs_there ps runs) pages told' r.there in
    let paired : ArePaired old runs = subst (λ (os : List Run). ArePaired os runs) (sym r.is) r.paired in
    let ch = c.in_ok-record_change.ensures.changes there pages store l (c.read_old.ensures.told ∙ told')
    (let a = may.at in a.stands) may.work e may.directory may.covered in
    let mid = ch.0 in
    let made = patch_made' told trx log n d c.args.rows.now c.args.space.now there pages store l may
    (row_of (row_there c.args.before.now)) e runs m can old paired is c.record_change.new.rows mid ch.2.0 in
    let free = free_after told trx log n d c.args.rows.now c.args.space.now there pages store l may
    (row_of (row_there c.args.before.now)) e runs m can old paired is c.record_change.new.rows mid ch.2.0 in
    on_ok _ _ c.lay_runs.result (λ wrote. (
      all_written (writes_of runs) mid,
      wrote ∙ ap (option_map (all_written (writes_of (map run_of c.as_slice.result.now)))) ch.1
          ∙ ap (λ (xs : List Run). Some (all_written (writes_of xs) mid)) c.as_slice.ensures.value,
      (made, (let cov = ch.2.1 in omega (arith, cov, free))),
    )) c.lay_runs.ensures.lays
