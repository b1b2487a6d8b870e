-- The record appended: placed, and put.
use Rattle.std.proofs.Common.{◌≡◌, ◌≢◌, inl, ℕ, ◌+◌, ◌≤◌, List, [], ◌∷◌, ◌++◌, length, Option, Some, IfSome, refl, sym, ap, ◌∙◌, subst, arith, lit≤}
use Rattle.page_model.specs.Pages.{Pages, Address, page_bytes}
use Rattle.page_model.specs.Spans.{span, IsOffAll, SameOutside}
use Rattle.page_model.specs.Steps.{Told, Becomes}
use Rattle.page_model.proofs.FrameLemmas.{field_kept, off_part, outside_wider}
use Rattle.page_model.proofs.StepLemmas.{told_step}
use Rattle.page_space.specs.Map.{free_of}
use Rattle.store_data.specs.Store.{LogState, active}
use Rattle.undo_model.specs.Data.{Record, Entry, Part, Log}
use Rattle.undo_model.specs.Bytes.{record_size}
use Rattle.undo_model.specs.Reading.{record_end, record_span}
use Rattle.undo_model.specs.Logs.{IsLog, AreParts, AreNumbered, newest, last_field, LastIs, records_in, records_of, log_spans, part_spans, end_field}
use Rattle.undo_model.specs.LogSteps.{appended}
use Rattle.undo_logs.specs.Puts.{PutsRecord, Role, at_end}
use Rattle.store_parts.specs.Appends.{CanAppend, AppendsRecord, MayOpen}
use Rattle.undo_logs.specs.Places.{IsPlaced}
use Rattle.undo_logs.proofs.AppendLemmas.{put_ready}

-- off a log's spans: off its first page's
off_first : (pages : Pages) (log n k : ℕ) (parts : List Part) → AreParts pages log parts → IsOffAll (part_spans parts) n k → IsOffAll (span log 0 67 ∷ span log 79 16_305 ∷ []) n k
off_first pages log n k [] are off = absurd are
off_first pages log n k (p ∷ []) are off = subst (λ (q : ℕ). IsOffAll (span q 0 67 ∷ span q 79 16_305 ∷ []) n k) are.0 off
off_first pages log n k (p ∷ q ∷ older) are off = off_first pages log n k (q ∷ older) are.1 off.1

-- what putting changes lies within the log's own bytes
put_within : (new : Pages) (log start at size n k : ℕ) (p : Part) (older : List Part) → Role new log start p older → start ≤ at → at + size ≤ record_end → AreParts new log (p ∷ older)
    → IsOffAll (part_spans (p ∷ older)) n k → IsOffAll (span p.page at size ∷ span p.page 50 2 ∷ span log 95 6 ∷ []) n k
put_within new log start at size n k p [] role low high are off =
    let s = role.1 in
    let first = off_first new log n k (p ∷ []) are off in (
      off_part p.page 79 16_305 at size n k (omega (arith, low, s)) (omega (arith, high)) off.1.0,
      (off_part p.page 0 67 50 2 n k (lit≤ tt) (lit≤ tt) off.0, (off_part log 79 16_305 95 6 n k (lit≤ tt) (lit≤ tt) first.1.0, tt)),
    )
put_within new log start at size n k p (q ∷ older) role low high are off =
    let first = off_first new log n k (p ∷ q ∷ older) are off in (
      off_part p.page 0 page_bytes at size n k (omega arith) (omega (arith, high)) off.0,
      (off_part p.page 0 page_bytes 50 2 n k (lit≤ tt) (lit≤ tt) off.0, (off_part log 79 16_305 95 6 n k (lit≤ tt) (lit≤ tt) first.1.0, tt)),
    )

-- the parts' spans don't depend on their records
same_spans : (p : Part) (e : Entry) (older : List Part) → part_spans (record { page = p.page; records = e ∷ p.records } ∷ older) ≡ part_spans (p ∷ older)
same_spans p e [] = refl
same_spans p e (q ∷ older) = refl

role_same : (mid : Pages) (log start : ℕ) (p : Part) (e : Entry) (older : List Part) → Role mid log start p older → Role mid log start (record { page = p.page; records = e ∷ p.records }) older
role_same mid log start p e [] role = role
role_same mid log start p e (q ∷ older) role = role

-- that role is of the new pages too, as far as the place of the record goes
start_of : (mid new : Pages) (log start : ℕ) (p : Part) (older : List Part) → Role mid log start p older → AreParts new log (p ∷ older) → Role new log start p older
start_of mid new log start p [] role are = (are.0, role.1)
start_of mid new log start p (q ∷ older) role are = (role.0, are.0.owner, are.0.new, are.1)

last_active : (s : LogState) (a : Address) (records : List Entry) → s ≡ active → LastIs s a records → a ≡ newest records
last_active s a records is last = subst (λ (x : LogState). LastIs x a records) is last

appended_new : (pages mid new : Pages) (l : Log) (r : Record) (roll : ℕ) (a previous : Address) → CanAppend l pages → IsPlaced l (record_size r) a pages mid → previous ≡ last_field pages l.page → r.number ≡ length (records_of l)
    → PutsRecord l.page a r previous mid new → (roll ≡ Rattle.undo_model.specs.Data.pointer (Rattle.undo_model.specs.Bytes.is_insert r.body) a) → AppendsRecord l r roll pages new
appended_new pages mid new l r roll a previous can placed prev count puts is =
    let p = placed.part in
    let older = placed.older in
    let at = placed.place in
    let before : previous ≡ newest (p.records ++ records_in older) = prev ∙ last_active l.state (last_field pages l.page) (records_of l) can.active can.stands.last ∙ ap newest (sym placed.same) in
    let P : Address → Address → Type 0 = λ x y. PutsRecord l.page x r y mid new in
    let puts' : PutsRecord l.page (at_end mid p) r (newest (p.records ++ records_in older)) mid new = subst (P (at_end mid p)) before (subst (λ (x : Address). P x previous) at puts) in
    let fits : end_field mid p.page + record_size r ≤ record_end = let f = placed.fits in let e = ap (λ (x : Address). x.at) at in omega (arith, f, e) in
    let e' : Entry = record { at = at_end mid p; undo = r } in
    let stands = put_ready mid new l placed.start p older r placed.ready fits puts' (subst AreNumbered (sym placed.same) can.stands.numbered) (count ∙ ap length (sym placed.same)) in
    let whole : appended e' l ≡ record l { parts = record { page = p.page; records = e' ∷ p.records } ∷ older } =
    ap (λ (ps : List Part). let m : Log = record l { parts = ps } in m) (placed.puts e' (sym at)) in
    let log' : IsLog new (appended e' l) = subst (IsLog new) (sym whole) stands in
    let are = stands.parts in
    let p' : Part = record { page = p.page; records = e' ∷ p.records } in
    let role' = start_of mid new l.page placed.start p' older (role_same mid l.page placed.start p e' older placed.ready.role) are in
    let floor = placed.ready.part.low in
    let outside : SameOutside (part_spans (p' ∷ older)) mid new =
    outside_wider (record_span (at_end mid p) r ∷ span p.page 50 2 ∷ span l.page 95 6 ∷ []) (part_spans (p' ∷ older)) mid new
    (λ n k off. put_within new l.page placed.start (end_field mid p.page) (record_size r) n k p' older role' floor fits are off) puts'.outside in
    record {
      at = at_end mid p;
      roll_is = is ∙ ap (Rattle.undo_model.specs.Data.pointer (Rattle.undo_model.specs.Bytes.is_insert r.body)) at;
      stands = log';
      opens = (mid, subst (λ (x : Address). MayOpen l x.page pages mid) at placed.opens, subst (λ (m : Log). SameOutside (log_spans m) mid new) (sym whole) outside);
    }

-- over told pages
pub append_told : (t0 t1 t2 : Option Pages) (pages : Pages) (l : Log) (r : Record) (log roll space : ℕ) (a previous : Address) → t0 ≡ Some pages → l.page ≡ log → CanAppend l pages → r.number ≡ length (records_of l)
    → IfSome t0 (λ ps. previous ≡ last_field ps log) → Becomes t1 (λ mid. IsPlaced l (record_size r) a pages mid × (space ≤ free_of mid)) → Told (PutsRecord log a r previous) t1 t2
    → roll ≡ Rattle.undo_model.specs.Data.pointer (Rattle.undo_model.specs.Bytes.is_insert r.body) a
    → Becomes t2 (λ new. AppendsRecord l r roll pages new × (space ≤ free_of new))
append_told t0 t1 t2 pages l r log roll space a previous is same can count prev placed puts roll_is =
    let mid = placed.0 in
    let at = placed.2.0 in
    let b = told_step (PutsRecord log a r previous) t1 t2 mid placed.1 puts in
    let puts' : PutsRecord l.page a r previous mid b.0 = subst (λ (n : ℕ). PutsRecord n a r previous mid b.0) (sym same) b.2 in
    let prev' : previous ≡ last_field pages l.page = subst (λ (o : Option Pages). IfSome o (λ ps. previous ≡ last_field ps log)) is prev ∙ ap (last_field pages) (sym same) in
    let zero : a.page ≢ 0 = at.other in
    let log_zero = can.room.log_other in
    let free : free_of b.0 ≡ free_of mid = field_kept (record_span a r ∷ span a.page 50 2 ∷ span l.page 95 6 ∷ []) mid b.0 0 62 4 puts'.outside
    (inl (λ e. zero (sym e)), (inl (λ e. zero (sym e)), (inl (λ e. log_zero (sym e)), tt))) in
    let room = placed.2.1 in
    (b.0, b.1, (appended_new pages mid b.0 l r roll a previous can at prev' count puts' roll_is, omega (arith, free, room)))
