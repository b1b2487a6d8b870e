-- Pointers to records that stand in pages.
use Rattle.std.proofs.Common.{◌≡◌, ◌≢◌, ℕ, zero, suc, ◌+◌, ◌/◌, ◌%◌, ◌^◌, ◌<◌, ◌==◌, Bool, true, cond, List, [], ◌∷◌, length, drop, slice_index, get_or, Option, Some, None, Result, Ok, Err, IfSome, IfOk, IfErr, refl, sym, ap, ap₂, ◌∙◌, subst, arith}
use Rattle.std.specs.Option.{option_map, option_and_then}
use Rattle.std.proofs.lemmas.List.{get_or-take, get_or-drop}
use Rattle.std.proofs.lemmas.Bool.{ne_eqb, ltb-true}
use Rattle.byteorder.specs.Endian.{big_number}
use Rattle.page_model.proofs.TableLemmas.{field_read}
use Rattle.page_model.specs.Pages.{Pages, AreWhole, page_at, byte, bytes_at, field, Address, address_at, null_address}
use Rattle.page_model.specs.Steps.{PageState, MayUse, Uses}
use Rattle.page_model.proofs.StepLemmas.{may_use_then, uses_then}
use Rattle.store_data.specs.Store.{LogState, active, committed, purging}
use Rattle.undo_model.specs.Data.{Record, Row, Body, inserted, rebuilt, versioned, patched, removed, Entry, Log, pointer, led}
use Rattle.undo_model.specs.Bytes.{is_insert, record_size, head_size}
use Rattle.undo_model.specs.Reading.{Standing, IsRecordAt, IsBad, is_place, record_in, body_in, runs_in, previous_in, is_previous, row_in, with_body}
use Rattle.undo_model.specs.Logs.{IsLog, LastIs, NextIs, AreChained, last_field, next_field, newest, records_of}
use Rattle.undo_model.proofs.OptionLemmas.{some_some, not_some, cond_some, and_true, map_some, then_some}
use Rattle.undo_model.proofs.PageLemmas.{one_record}
use Rattle.engine_base.specs.Faults.{IsHonest}
use Rattle.engine_base.specs.declared.fault.Fault.{Fault}
use Rattle.engine_base.specs.declared.fault.Fault.TheVariants.{Device, Strange}
use Rattle.undo_logs.specs.Reads.{IsLengthThere, IsNoRecord, PointsTo, number_of, newest_pointer}
use Rattle.engine_base.specs.declared.addr.Addr.{Addr}
use Rattle.engine_base.specs.Addresses.{address_of}
use Rattle.undo_records.specs.Answers.{AnswersRead}
use Rattle.undo_records.specs.declared.pages.RecordError.TheVariants.{Bad}
use Rattle.undo_records.specs.declared.pages.RecordError.{RecordError}
use Rattle.undo_records.specs.declared.ids.RollPtr.{RollPtr}

-- the kind tells whether a body is that of an insert
kind_of_insert : (count kind : ℕ) (bytes : List ℕ) (b : Body) → body_in count kind bytes ≡ Some b → is_insert b ≡ (kind == 1)
kind_of_insert count zero bytes b e = absurd (not_some b e)
kind_of_insert count (suc zero) bytes b e = ap is_insert (sym (some_some (inserted (big_number 4 bytes)) b (cond_some _ (Some (inserted (big_number 4 bytes))) b e).1))
kind_of_insert count (suc (suc zero)) bytes b e = ap is_insert (sym (some_some (rebuilt (big_number 4 bytes)) b (cond_some _ (Some (rebuilt (big_number 4 bytes))) b e).1))
kind_of_insert count (suc (suc (suc zero))) bytes b e = ap is_insert (sym (some_some (versioned (big_number 4 bytes) (drop 4 bytes)) b (cond_some _ (Some (versioned (big_number 4 bytes) (drop 4 bytes))) b e).1))
kind_of_insert count (suc (suc (suc (suc zero)))) bytes b e =
    let o = option_map patched (runs_in count (slice_index bytes 0) 100 (drop 1 bytes)) in
    let m = map_some patched (runs_in count (slice_index bytes 0) 100 (drop 1 bytes)) b (cond_some _ o b e).1 in ap is_insert (sym m.2)
kind_of_insert count (suc (suc (suc (suc (suc zero))))) bytes b e = ap is_insert (sym (some_some removed b (cond_some _ (Some removed) b e).1))
kind_of_insert count (suc (suc (suc (suc (suc (suc n)))))) bytes b e = absurd (not_some b e)

record_kind : (count : ℕ) (bytes : List ℕ) (s : Standing) → record_in count bytes ≡ Some s → is_insert s.undo.body ≡ (slice_index bytes 2 == 1)
record_kind count bytes s e =
    let previous = previous_in bytes in
    let number = big_number 4 (drop 3 bytes) in
    let doc = big_number 4 (drop 7 bytes) in
    let body = body_in count (slice_index bytes 2) (drop head_size bytes) in
    let rest : Row → Option Standing = λ before. option_map (with_body number doc previous before) body in
    let c = cond_some (is_previous count previous.page previous.at) (option_and_then rest (row_in count (drop 11 bytes))) s e in
    let t = then_some rest (row_in count (drop 11 bytes)) s c.1 in
    let m = map_some (with_body number doc previous t.0) body s t.2 in
    ap (λ (x : Standing). is_insert x.undo.body) (sym m.2) ∙ kind_of_insert count (slice_index bytes 2) (drop head_size bytes) m.0 m.1

field_one : (pages : Pages) (page at : ℕ) → field pages page at 1 ≡ byte pages page at
unfolding field
field_one pages page at =
    let there = get_or-drop at (page_at pages page) 0 0 in
    omega (arith, there, ap (λ (k : ℕ). get_or (page_at pages page) k 0) (add_zero at))
  where
    add_zero : (n : ℕ) → n + 0 ≡ n
    add_zero n = omega arith

pub kind_there : (pages : Pages) (a : Address) (r : Record) (previous : Address) (kind : ℕ) → IsRecordAt pages a r previous → kind ≡ field pages a.page (a.at + 2) 1 → (kind == 1) ≡ is_insert r.body
kind_there pages a r previous kind is read =
    let n = record_size r in
    let bytes = bytes_at pages a.page a.at n in
    let two : slice_index bytes 2 ≡ byte pages a.page (a.at + 2) = get_or-take n (drop a.at (page_at pages a.page)) 2 0 (omega arith) ∙ get_or-drop a.at (page_at pages a.page) 2 0 in
    ap (λ (k : ℕ). k == 1) (read ∙ field_one pages a.page (a.at + 2) ∙ sym two) ∙ sym (record_kind (length pages) bytes (record { undo = r; previous = previous }) is.reads)

-- no record stands at the null address, since a page's number has 32 bits
null_bare : (pages : Pages) (count : ℕ) (r : Record) (previous : Address) → AreWhole pages count → count < 2 ^ 32 → IsRecordAt pages null_address r previous → ⊥
null_bare pages count r previous whole few is = let p = is.page in let w = whole.many in let z : 4_294_967_295 < 4_294_967_295 = omega (arith, p, w, few) in omega (arith, z)

pub points_nowhere : (told : Option Pages) (count page at : ℕ) → ((pages : Pages) → told ≡ Some pages → AreWhole pages count) → count < 2 ^ 32 → page ≡ 4_294_967_295 → at ≡ 0
    → IfSome told (λ pages. PointsTo pages (record { page = page; at = at }) None)
points_nowhere None count page at whole few ep ea = tt
points_nowhere (Some pages) count page at whole few ep ea = record {
  none = λ e. refl;
  some = λ r previous is. absurd (null_bare pages count r previous (whole pages refl) few
      (subst (λ (a : Address). IsRecordAt pages a r previous) (ap (λ (p : ℕ). let x : Address = record { page = p; at = at } in x) ep ∙ ap (λ (k : ℕ). let x : Address = record { page = 4_294_967_295; at = k } in x) ea) is));
}

-- a pointer made of the kind that was read at an address points to the record there
pub points_there : (told : Option Pages) (a : Address) (kind n : ℕ) → (a ≡ null_address → ⊥) → IfSome told (λ pages. kind ≡ field pages a.page (a.at + 2) 1) → n ≡ pointer (kind == 1) a
    → IfSome told (λ pages. PointsTo pages a (Some n))
points_there None a kind n other read is = tt
points_there (Some pages) a kind n other read is = record {
  none = λ e. absurd (other e);
  some = λ r previous stands. ap (λ (x : ℕ). Some x) (is ∙ ap (λ (b : Bool). pointer b a) (kind_there pages a r previous kind stands read));
}

-- ---- the last record

-- before the purge, what stands for the last record is the newest record's address
pub last_of_state : (s : LogState) (a : Address) (records : List Entry) → s ≢ purging → LastIs s a records → a ≡ newest records
last_of_state active a records other is = is
last_of_state committed a records other is = is
last_of_state purging a records other is = absurd (other refl)

by_records : (pages : Pages) (records : List Entry) (n : Option ℕ) → AreChained pages records → PointsTo pages (newest records) n → n ≡ newest_pointer records
by_records pages [] n chain points = points.none refl
by_records pages (e ∷ older) n chain points = points.some e.undo (newest older) chain.0

pub last_pointer : (told : Option Pages) (pages : Pages) (l : Log) (log : ℕ) (a : Address) (n : Option ℕ) → told ≡ Some pages → l.page ≡ log → IsLog pages l → l.state ≢ purging → IfSome told (λ ps. a ≡ last_field ps log)
    → IfSome told (λ ps. PointsTo ps a n) → n ≡ newest_pointer (records_of l)
last_pointer told pages l log a n is same stands state read points =
    let read' : a ≡ last_field pages log = subst (λ (o : Option Pages). IfSome o (λ ps. a ≡ last_field ps log)) is read in
    let points' : PointsTo pages a n = subst (λ (o : Option Pages). IfSome o (λ ps. PointsTo ps a n)) is points in
    let e : a ≡ newest (records_of l) = read' ∙ ap (last_field pages) (sym same) ∙ last_of_state l.state (last_field pages l.page) (records_of l) state stands.last in
    by_records pages (records_of l) n stands.chain (subst (λ (x : Address). PointsTo pages x n) e points')

-- once committed, what stands for the next record to purge is its address, or null for none
pub next_of_state : (s : LogState) (a : Address) (next : Option Address) → s ≢ active → NextIs s a next → a ≡ Rattle.page_model.specs.Lists.or_null next
next_of_state active a next other is = absurd (other refl)
next_of_state committed a next other is = is
next_of_state purging a next other is = is

pub next_pointer : (told : Option Pages) (pages : Pages) (l : Log) (log : ℕ) (a : Address) (n : Option ℕ) → told ≡ Some pages → l.page ≡ log → IsLog pages l → l.state ≢ active → IfSome told (λ ps. a ≡ next_field ps log)
    → IfSome told (λ ps. PointsTo ps a n) → PointsTo pages (Rattle.page_model.specs.Lists.or_null l.next) n
next_pointer told pages l log a n is same stands state read points =
    let read' : a ≡ next_field pages log = subst (λ (o : Option Pages). IfSome o (λ ps. a ≡ next_field ps log)) is read in
    let points' : PointsTo pages a n = subst (λ (o : Option Pages). IfSome o (λ ps. PointsTo ps a n)) is points in
    let e : a ≡ Rattle.page_model.specs.Lists.or_null l.next = read' ∙ ap (next_field pages) (sym same) ∙ next_of_state l.state (next_field pages l.page) l.next state stands.next in
    subst (λ (x : Address). PointsTo pages x n) e points'

-- ---- pins

module _ {T : Type 0} {state : T → PageState} {stays : T → T → Type 0} (add : (a b c : T) → stays a b → stays b c → stays a c) (log : ℕ) (s : T) where
  pub may_other_page : (a : T) → MayUse (log ∷ []) 1 0 (state s) → Uses state stays (log ∷ []) 0 0 s a → MayUse [] 1 0 (state a)
  may_other_page a may u1 = may_use_then (log ∷ []) [] 0 1 0 0 s a may u1

  pub uses_other_page : (a b : T) → Uses state stays (log ∷ []) 0 0 s a → Uses state stays [] 1 0 a b → Uses state stays (log ∷ []) 1 0 s b
  uses_other_page a b u1 u2 = uses_then add (log ∷ []) [] 0 1 0 0 s a b u1 u2

-- ---- a pointer that leads somewhere

-- a pointer that isn't 0 leads to the page and the offset that its bytes hold
pub leads : (n : ℕ) → 0 < n → led n ≡ Some (record { page = (n / 65_536) % 4_294_967_296; at = n % 65_536 })
leads n some = ap (λ (b : Bool). cond b None (Some (let a : Address = record { page = (n / 65_536) % 4_294_967_296; at = n % 65_536 } in a))) (ne_eqb n 0 (λ e. let z : 0 < 0 = subst (λ (k : ℕ). 0 < k) e some in omega (arith, z)))

-- a record's place isn't the null address, whose page number is past those of pages
pub place_not_null : (count : ℕ) (a : Address) → is_place count a.page a.at ≡ true → count < 2 ^ 32 → a ≡ null_address → ⊥
place_not_null count a place few null =
    let below : a.page < count = ltb-true a.page count (and_true _ _ place).0 in
    let e : a.page ≡ 4_294_967_295 = ap (λ (x : Address). x.page) null in
    let z : 4_294_967_295 < 4_294_967_295 = omega (arith, below, e, few) in omega (arith, z)

-- the record read where a pointer leads is the one that stands there
pub at_same : (told : Option Pages) (pages : Pages) (a : Address) (r x : Record) (previous : Address) → told ≡ Some pages → IsRecordAt pages a r previous
    → IfSome told (λ ps. (q : Address) × IsRecordAt ps a x q) → x ≡ r
at_same told pages a r x previous is stands found =
    let f : (q : Address) × IsRecordAt pages a x q = subst (λ (o : Option Pages). IfSome o (λ ps. (q : Address) × IsRecordAt ps a x q)) is found in
    (one_record pages a x r f.0 previous f.1 stands).0

-- none stands where one does
pub at_bad : {X : Type 0} (told : Option Pages) (pages : Pages) (a : Address) (r : Record) (previous : Address) → told ≡ Some pages → IsRecordAt pages a r previous
    → IfSome told (λ ps. IsBad ps a) → X
at_bad told pages a r previous is stands bad =
    let f : IsBad pages a = subst (λ (o : Option Pages). IfSome o (λ ps. IsBad ps a)) is bad in
    absurd (f r previous stands)

pub bad_only : {A : Type 0} (told : Option Pages) (there at : A) (b : Address) → IfSome told (λ ps. (there ≡ at) × IsBad ps b) → IfSome told (λ ps. IsBad ps b)
bad_only None there at b both = tt
bad_only (Some pages) there at b both = both.1

-- the pointer made of the last record's address is the newest record's, before the purge
pub last_of_told : {E : Type 0} (t0 t1 : Option Pages) (pages : Pages) (l : Log) (log : ℕ) (a : Address) (result : Result (Option RollPtr) E) → t0 ≡ Some pages → l.page ≡ log → IsLog pages l → l.state ≢ purging → t1 ≡ t0
    → IfSome t0 (λ ps. a ≡ last_field ps log) → IfOk result (λ r. IfSome t1 (λ ps. PointsTo ps a (number_of r))) → IfOk result (λ r. number_of r ≡ newest_pointer (records_of l))
last_of_told t0 t1 pages l log a (Ok r) is same stands state told read points =
    last_pointer t0 pages l log a (number_of r) is same stands state read (subst (λ (o : Option Pages). IfSome o (λ ps. PointsTo ps a (number_of r))) told points)
last_of_told t0 t1 pages l log a (Err e) is same stands state told read points = tt

-- the pointer made of the address to purge next points to that record, once committed
pub next_of_told : {E : Type 0} (t0 t1 : Option Pages) (pages : Pages) (l : Log) (log : ℕ) (a : Address) (result : Result (Option RollPtr) E) → t0 ≡ Some pages → l.page ≡ log → IsLog pages l → l.state ≢ active → t1 ≡ t0
    → IfSome t0 (λ ps. a ≡ next_field ps log) → IfOk result (λ r. IfSome t1 (λ ps. PointsTo ps a (number_of r))) → IfOk result (λ r. PointsTo pages (Rattle.page_model.specs.Lists.or_null l.next) (number_of r))
next_of_told t0 t1 pages l log a (Ok r) is same stands state told read points =
    next_pointer t0 pages l log a (number_of r) is same stands state read (subst (λ (o : Option Pages). IfSome o (λ ps. PointsTo ps a (number_of r))) told points)
next_of_told t0 t1 pages l log a (Err e) is same stands state told read points = tt

bad_told : (told : Option Pages) (at there : Addr) → IfSome told (λ ps. AnswersRead ps at (Err (Bad there))) → IfSome told (λ ps. IsBad ps (address_of at))
bad_told None at there both = tt
bad_told (Some pages) at there both = both.1

-- a read that answers that the bytes are bad says that no record stands at the address
pub answers_bad : (told : Option Pages) (at there : Addr) (e : RecordError) → e ≡ Bad there → IfSome told (λ ps. AnswersRead ps at (Err e)) → IfSome told (λ ps. IsBad ps (address_of at))
answers_bad told at there e is both = bad_told told at there (subst (λ (x : RecordError). IfSome told (λ ps. AnswersRead ps at (Err x))) is both)

-- what stands where a pointer leads, where that is no record
pub no_record_names : {A : Type 0} (told told' : Option Pages) (a b : Address) (r : Result A Fault) → told' ≡ told → a ≡ b → IfSome told (λ ps. IsBad ps a) → IfErr r (IsHonest (IsLengthThere told' a)) → IfErr r (IsHonest (IsNoRecord told b))
no_record_names told told' a b (Ok x) same is bad names = tt
no_record_names told told' a b (Err Device) same is bad names = tt
no_record_names told told' a b (Err (Strange page at value)) same is bad names =
    let P : Option Pages → Type 0 = λ o. IsLengthThere o a page.0 at value in
    let Q : Address → Type 0 = λ x. IsNoRecord told x page.0 at value in
    subst Q is (record { here = subst P same names; bad = bad })

-- the page and the offset that a pointer's bytes hold are the address it leads to
pub leads_here : (n : ℕ) (a b : Address) → led n ≡ Some b → led n ≡ Some a → a ≡ b
leads_here n a b there is = some_some a b (sym is ∙ there)

-- ---- the record before

-- what stands in a record's bytes for the one before it
pub previous_there : (pages : Pages) (a : Address) (r : Record) (previous : Address) → IsRecordAt pages a r previous → (previous ≡ address_at pages a.page (a.at + 45)) × (is_previous (length pages) previous.page previous.at ≡ true)
previous_there pages a r previous is =
    let n = record_size r in
    let bytes = bytes_at pages a.page a.at n in
    let before = previous_in bytes in
    let number = big_number 4 (drop 3 bytes) in
    let doc = big_number 4 (drop 7 bytes) in
    let body = body_in (length pages) (slice_index bytes 2) (drop head_size bytes) in
    let rest : Row → Option Standing = λ row. option_map (with_body number doc before row) body in
    let s : Standing = record { undo = r; previous = previous } in
    let c = cond_some (is_previous (length pages) before.page before.at) (option_and_then rest (row_in (length pages) (drop 11 bytes))) s is.reads in
    let t = then_some rest (row_in (length pages) (drop 11 bytes)) s c.1 in
    let m = map_some (with_body number doc before t.0) body s t.2 in
    let same : previous ≡ before = sym (ap (λ (x : Standing). x.previous) m.2) in
    let page : before.page ≡ field pages a.page (a.at + 45) 4 = field_read pages a.page a.at n 45 4 bytes refl (omega arith) in
    let at : before.at ≡ field pages a.page (a.at + 49) 2 = field_read pages a.page a.at n 49 2 bytes refl (omega arith) in
    let at' : field pages a.page (a.at + 49) 2 ≡ field pages a.page (a.at + 45 + 4) 2 = ap (λ (k : ℕ). field pages a.page k 2) (let e : a.at + 49 ≡ a.at + 45 + 4 = omega arith in e) in
    (same ∙ ap₂ (λ (p q : ℕ). let x : Address = record { page = p; at = q } in x) page (at ∙ at'), subst (λ (x : Address). is_previous (length pages) x.page x.at ≡ true) (sym same) c.0)

-- as it was read
pub previous_read : (told : Option Pages) (count : ℕ) (pages : Pages) (a : Address) (r : Record) (previous b : Address) → AreWhole pages count → told ≡ Some pages → IsRecordAt pages a r previous → IfSome told (λ ps. b ≡ address_at ps a.page (a.at + 45))
    → (b ≡ previous) × (is_previous count b.page b.at ≡ true)
previous_read told count pages a r previous b whole is stands read =
    let there = previous_there pages a r previous stands in
    let same : b ≡ previous = subst (λ (o : Option Pages). IfSome o (λ ps. b ≡ address_at ps a.page (a.at + 45))) is read ∙ sym there.0 in
    (same, subst (λ (n : ℕ). is_previous n b.page b.at ≡ true) whole.many (subst (λ (x : Address). is_previous (length pages) x.page x.at ≡ true) (sym same) there.1))
