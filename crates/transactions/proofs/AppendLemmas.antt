-- A record appended to a transaction's log: what the call asks for, and the store behind it.
use Rattle.std.proofs.Common.{◌≡◌, ◌≢◌, ◌⊎◌, inl, inr, ℕ, ◌+◌, ◌*◌, ◌<◌, ◌≤◌, ◌==◌, Bool, true, false, cond, List, [], ◌∷◌, ◌++◌, length, Option, Some, refl, sym, ap, subst, ◌∙◌, arith}
use Rattle.std.proofs.lemmas.List.{length-append}
use Rattle.page_model.specs.Pages.{Pages, Address}
use Rattle.page_model.specs.Counts.{times}
use Rattle.page_model.proofs.CountLemmas.{times_here, few_pages}
use Rattle.store_data.specs.Logs.{with_entry}
use Rattle.store_data.specs.Store.{LogState, active, committed, purging, Log, Store}
use Rattle.undo_model.specs.Data.{Record as RecordThere, Entry, Part, Log as LogThere, pointer}
use Rattle.undo_model.specs.Bytes.{is_insert}
use Rattle.undo_model.specs.Reading.{IsRecordAt, IsRecordPlace}
use Rattle.undo_model.specs.Logs.{AreParts, AreChained, IsFilled, newest, records_in, records_of, end_field, first_start, other_start}
use Rattle.undo_model.specs.LogLists.{AreLogs, pages_in, all_pages}
use Rattle.undo_model.specs.LogSteps.{put_part}
use Rattle.undo_model.specs.Rows.{RowPage}
use Rattle.undo_logs.proofs.PlaceOfLemmas.{places_off}
use Rattle.store_model.specs.History.{changes}
use Rattle.store_model.specs.Steps.{on_log, log_of as log_in}
use Rattle.store_model.specs.Well.{IsNew}
use Rattle.store_parts.specs.Appends.{AppendsRecord, MayOpen, newest_of}
use Rattle.store_parts.specs.Standing.{mark}
use Rattle.store_parts.specs.Shows.{log_of, logs_of, record_of, entries_of, due_in}
use Rattle.store_parts.proofs.CountLemmas.{mark_small, times-joined}
use Rattle.store_parts.proofs.FrameLemmas.{times-parts}
use Rattle.store_parts.proofs.MoveLemmas.{marked}
use Rattle.store_pages.proofs.AllLogsLemmas.{all_stand}
use Rattle.store_pages.proofs.AppendLemmas.{append_changes}
use Rattle.store_pages.specs.Changes.{LogAt}
use Rattle.store_pages.proofs.LogStoreLemmas.{FoundLog, LogRows, found_log, log_at_rows}
use Rattle.store_pages.proofs.PartLemmas.{times-logs}
use Rattle.store_steps.specs.Standing.{StandsOn}
use Rattle.transactions.proofs.BeginLemmas.{mark_free}
use Rattle.transactions.proofs.StandLemmas.{stays_on}
use Rattle.transactions.proofs.PlaceLemmas.{AllElse, AllLogsElse, new_changes, logs_else, cut_else, own_else}

-- ---- how many records there are

all_active : (state : LogState) (next : Option Address) (es : List Entry) → state ≡ active
    → due_in state next es ≡ es
all_active active next es is = refl
all_active committed next es is = absurd (let e : committed ≡ active = is in cc)
all_active purging next es is = absurd (let e : purging ≡ active = is in cc)

length_entries : (es : List Entry) → length (entries_of es) ≡ length es
length_entries [] = refl
length_entries (e ∷ es) = let r = length_entries es in omega (arith, r)

filled_few : (page start end : ℕ) (es : List Entry) → IsFilled page start end es
    → start + length es ≤ end
filled_few page start end [] filled = omega (arith, filled)
filled_few page start end (e ∷ es) filled =
    let r = filled_few page start e.at.at es filled.2 in
    let s = filled.1 in omega (arith, r, s)

-- each page has less than so many
parts_few : (pages : Pages) (first : ℕ) (parts : List Part) → AreParts pages first parts
    → length (records_in parts) ≤ 16_376 * length (pages_in parts)
parts_few pages first [] are = omega arith
parts_few pages first (p ∷ []) are =
    let part = are.1 in
    let f = filled_few p.page first_start (end_field pages p.page) p.records part.filled in
    let h = part.high in
    let a = length-append p.records [] in omega (arith, f, h, a)
parts_few pages first (p ∷ q ∷ older) are =
    let part = are.0.part in
    let f = filled_few p.page other_start (end_field pages p.page) p.records part.filled in
    let h = part.high in
    let r = parts_few pages first (q ∷ older) are.1 in
    let a = length-append p.records (records_in (q ∷ older)) in omega (arith, f, h, r, a)

-- ---- plain data

records_put : (e : Entry) (parts : List Part)
    → records_in (put_part e parts) ≡ e ∷ records_in parts
records_put e [] = refl
records_put e (p ∷ older) = by (p.page == e.at.page)
  where
    by : (b : Bool) → records_in (cond b (record { page = p.page; records = e ∷ p.records } ∷ older)
        (record { page = e.at.page; records = e ∷ [] } ∷ p ∷ older))
        ≡ e ∷ (p.records ++ records_in older)
    by true = refl
    by false = refl

-- ---- in a store

pub record Appended (there : List RowPage) (trx : ℕ) (r : RecordThere) (roll : ℕ) (store : Store)
    (new : Pages) : Type 0 where
  pub place : Address
  pub leads : roll ≡ pointer (is_insert r.body) place
  pub stands : StandsOn there new
      (record store { active = on_log trx (with_entry place (record_of r)) store.active })
  pub fresh : (d : ℕ) → IsNew place (changes store d)
  pub within : IsRecordPlace (length new) place
  pub other : place.page ≢ 0

module _ (there : List RowPage) (pages : Pages) (store : Store) (trx : ℕ) (x : Log)
    (on : StandsOn there pages store) (found : log_in store.active trx ≡ Some x) where
  -- the log as it is changed in the store, and as it stands in the list
  abbrev pub changing : (a : LogAt pages store trx x) × LogRows pages a.log
  changing = log_at_rows pages store trx x on.is found

  abbrev at : FoundLog on.is.stored.active trx x
  at = found_log on.is.stored.active trx x
      (ap (λ (ls : List Log). log_in ls trx) (sym on.is.shows.active) ∙ found)

  abbrev pub log : LogThere
  log = changing.0.log

  pub page_is : log.page ≡ x.page
  page_is = ap (λ (y : Log). y.page) changing.0.shows

  -- as many records as it shows
  pub many : length (records_of log) ≡ length x.records
  many =
      sym (length_entries (records_of log))
      ∙ ap (λ (es : List Entry). length (entries_of es))
      (sym (all_active log.state log.next (records_of log) changing.0.is_active))
      ∙ ap (λ (y : Log). length y.records) changing.0.shows

  same_pages : (n : ℕ) → times n (pages_in log.parts) ≡ times n (pages_in at.log.parts)
  same_pages n = ap (λ (y : Log). times n y.pages) (changing.0.shows ∙ sym at.shows)

  -- no page is of two logs
  counts : (n : ℕ) → times n (pages_in log.parts)
      + (times n (all_pages at.before) + (times n (all_pages at.after)
      + times n (all_pages on.is.stored.committed))) + times n (0 ∷ []) ≤ mark pages n
  counts n =
      let s = on.is.stored in
      let m = on.is.standing.marks n in
      let p = times-parts n s in
      let e : times n (all_pages s.active) ≡ times n (all_pages (at.before ++ at.log ∷ at.after)) =
      ap (λ (ls : List LogThere). times n (all_pages ls)) at.cut in
      let l = times-logs n at.before at.log at.after in
      let j = times-joined n at.before at.after in
      let q = same_pages n in
      omega (arith, m, p, e, l, j, q)

  -- so another record has a number of 32 bits
  pub few_records : length x.records < 4_294_967_295
  few_records =
      let log' = changing.0.stands in
      let f = parts_few pages log.page log.parts log'.parts in
      let k = few_pages (length pages) (pages_in log.parts)
      (λ n. let c = counts n in let s = mark_small pages n in omega (arith, c, s))
      (λ n h. (marked pages n (let c = counts n in omega (arith, c, h))).0) in
      let m = many in
      let s = on.is.standing.map.size.few in omega (arith, m, f, k, s)

  -- none of the other logs has the page
  no_other : (n : ℕ) → (1 ≤ times n (pages_in log.parts)) ⊎ (mark pages n ≡ 0)
      → (times n (all_pages at.before) ≡ 0) × (times n (all_pages at.after) ≡ 0)
      × (times n (all_pages on.is.stored.committed) ≡ 0)
  no_other n (inl own) =
      let c = counts n in let s = mark_small pages n in
      (omega (arith, c, s, own), omega (arith, c, s, own), omega (arith, c, s, own))
  no_other n (inr free) =
      let c = counts n in
      (omega (arith, c, free), omega (arith, c, free), omega (arith, c, free))

  on_newest : (n : ℕ) (parts : List Part) → AreParts pages log.page parts → n ≡ newest_of parts
      → 1 ≤ times n (pages_in parts)
  on_newest n [] are is = absurd are
  on_newest n (p ∷ older) are is =
      subst (λ (k : ℕ). 1 ≤ times k (p.page ∷ pages_in older)) (sym is)
      (times_here p.page (pages_in older))

  page_at : (n : ℕ) (mid : Pages) → MayOpen log n pages mid
      → (1 ≤ times n (pages_in log.parts)) ⊎ (mark pages n ≡ 0)
  page_at n mid (inl same) =
      let log' = changing.0.stands in inl (on_newest n log.parts log'.parts same.1)
  page_at n mid (inr opens) = inr (mark_free pages n opens.free)

  not_zero : (n : ℕ) → (1 ≤ times n (pages_in log.parts)) ⊎ (mark pages n ≡ 0) → n ≢ 0
  not_zero n (inl own) = λ is. no (
      let e : times n (pages_in log.parts) ≡ times 0 (pages_in log.parts) =
      ap (λ (k : ℕ). times k (pages_in log.parts)) is in
      let c = counts 0 in let s = mark_small pages 0 in let z = times_here 0 [] in
      omega (arith, own, e, c, s, z))
    where
      no : 1 ≤ 0 → ⊥
      no h = absurd (omega arith)
  not_zero n (inr free) = λ is. no (
      let e : mark pages n ≡ mark pages 0 = ap (mark pages) is in
      let c = counts 0 in let z = times_here 0 [] in omega (arith, free, e, c, z))
    where
      no : 1 ≤ 0 → ⊥
      no h = absurd (omega arith)

  -- at no other record's place
  others_else : (a : Address) → (times a.page (all_pages at.before) ≡ 0)
      × (times a.page (all_pages at.after) ≡ 0)
      × (times a.page (all_pages on.is.stored.committed) ≡ 0) → AllElse a (log_of log).records
      → AllLogsElse a store.active × AllLogsElse a store.committed
  others_else a far own =
      let s = on.is.stored in
      let st = on.is.standing in
      let logs = all_stand pages s.active st.active on.is.whole.active_in in
      let own' : AllElse a (log_of at.log).records =
      subst (λ (y : Log). AllElse a y.records) (changing.0.shows ∙ sym at.shows) own in (
        subst (AllLogsElse a) (sym on.is.shows.active)
            (subst (λ (ls : List LogThere). AllLogsElse a (logs_of ls)) (sym at.cut)
            (cut_else pages a at.before at.log at.after (subst
            (AreLogs pages) at.cut logs) own' far.0
            far.1)),
        subst (AllLogsElse a) (sym on.is.shows.committed)
            (logs_else pages a s.committed
            (all_stand pages s.committed st.committed on.is.whole.committed_in) far.2),
      )

  pub append_at : (new : Pages) (r : RecordThere) (roll : ℕ) → AppendsRecord log r roll pages new
      → Appended there trx r roll store new
  append_at new r roll a =
      let f = with_entry a.at (record_of r) in
      let e : Entry = record { at = a.at; undo = r } in
      let change = append_changes log r roll pages new changing.0.stands changing.0.is_active a in
      let put = records_put e log.parts in
      let there' = a.stands in
      let chain : AreChained new (e ∷ records_in log.parts) = subst
      (AreChained new) put there'.chain in
      let first : IsRecordAt new a.at r (newest (records_in log.parts)) = chain.0 in
      let page = a.at.page in
      let opens = a.opens.1 in
      let which = page_at page a.opens.0 opens in
      let off = (places_off new log.page (put_part e log.parts) [] e (records_in log.parts)
      there'.parts put).1 in
      let all = others_else a.at (no_other page which)
      (own_else a.at log changing.0.is_active off) in
      record {
        place = a.at;
        leads = a.roll_is;
        stands = stays_on there pages new store
            (record store { active = on_log trx f store.active })
            on (changing.0.changed new f change) (changing.1.changed new f change);
        fresh = λ d. new_changes a.at store d all.0 all.1;
        within = record {
          page = first.page;
          within = (let w = first.within in omega (arith, w));
        };
        other = not_zero page which;
      }
