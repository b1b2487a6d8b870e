-- A record ends: its row is restored behind it.
use Rattle.std.proofs.Common.{◌≡◌, inl, inr, ℕ, ◌==◌, Bool, true, false, if◌then◌else◌, List, [], ◌∷◌, ◌++◌, Option, Some, None, is_none, refl, sym, ap, subst, ◌∙◌}
use Rattle.std.specs.Option.{option_map}
use Rattle.std.proofs.lemmas.Bool.Decides.{eqb_tells}
use Rattle.page_model.specs.Pages.{Pages, Address}
use Rattle.store_data.specs.Store.{RowState, absent, live, deleted, Row, Record, Log, Store}
use Rattle.store_model.specs.Steps.{on_log, log_of, with_row, without_row}
use Rattle.store_model.specs.Events.{with_log_pages, with_row_pages}
use Rattle.store_model.specs.Undo.{record_at, record_in, is_gone, restored}
use Rattle.store_model.specs.Well.{NoLog, AreDistinct}
use Rattle.store_parts.specs.Stored.{row_pages}
use Rattle.row_dir.specs.declared.dir.RowDir.{RowDir}
use Rattle.store_steps.specs.Standing.{StandsOn}
use Rattle.rollback.specs.Standing.{Scene}
use Rattle.rollback.specs.Records.{log_left, record_out}
use Rattle.rollback.specs.Rows.{CanRestore, RestoresRow}
use Rattle.rollback.specs.Ends.{EndsRecord}

-- ---- a log's pages say nothing of its records

abbrev paged : List ℕ → Log → Log
paged pages l = record l { pages = pages }

-- a log found among those of which one has other pages
same_found : (trx t : ℕ) (pages : List ℕ) (roll : Option Address) (ls cs : List Log)
    → record_in (log_of (on_log trx (paged pages) ls ++ cs) t) roll
    ≡ record_in (log_of (ls ++ cs) t) roll
same_found trx t pages roll [] cs = refl
same_found trx t pages roll (l ∷ ls) cs = elim (eqb_tells l.trx trx) [
  | inl mine ↦
      ap (λ (b : Bool). record_in (log_of ((if b then paged pages l ∷ ls else l ∷ on_log trx (paged pages) ls) ++ cs) t) roll) mine.0
      ∙ same_record (l.trx == t)
  | inr other ↦
      ap (λ (b : Bool). record_in (log_of ((if b then paged pages l ∷ ls else l ∷ on_log trx (paged pages) ls) ++ cs) t) roll) other.0
      ∙ behind (same_found trx t pages roll ls cs) (l.trx == t)
]
  where
    same_in : (o : Option Address) → record_in (Some (paged pages l)) o ≡ record_in (Some l) o
    same_in None = refl
    same_in (Some a) = refl

    same_record : (b : Bool) → record_in (if b then Some (paged pages l) else log_of (ls ++ cs) t) roll
        ≡ record_in (if b then Some l else log_of (ls ++ cs) t) roll
    same_record true = same_in roll
    same_record false = refl

    behind : record_in (log_of (on_log trx (paged pages) ls ++ cs) t) roll
        ≡ record_in (log_of (ls ++ cs) t) roll → (b : Bool)
        → record_in (if b then Some l else log_of (on_log trx (paged pages) ls ++ cs) t) roll
        ≡ record_in (if b then Some l else log_of (ls ++ cs) t) roll
    behind more true = refl
    behind more false = more

same_gone : (trx : ℕ) (pages : List ℕ) (store : Store) (state : RowState) (row : Row)
    → is_gone (with_log_pages trx pages store) state row ≡ is_gone store state row
same_gone trx pages store absent row = refl
same_gone trx pages store live row = refl
same_gone trx pages store deleted row =
    ap is_none (same_found trx row.trx pages row.roll store.active store.committed)

-- so a row is restored whatever they are
same_restored : (trx d : ℕ) (pages : List ℕ) (store : Store) (row : Row)
    → restored d row (with_log_pages trx pages store) ≡ with_log_pages trx pages (restored d row store)
same_restored trx d pages store row =
    ap (λ (b : Bool). if b then without_row d (with_log_pages trx pages store)
    else with_row d row (with_log_pages trx pages store)) (same_gone trx pages store row.state row)
    ∙ by (is_gone store row.state row)
  where
    by : (b : Bool) → (if b then without_row d (with_log_pages trx pages store)
        else with_row d row (with_log_pages trx pages store))
        ≡ with_log_pages trx pages (if b then without_row d store else with_row d row store)
    by true = refl
    by false = refl

restored_left : (rest : List (Address × Record)) (trx d : ℕ) (pages : List ℕ) (store : Store) (row : Row)
    → restored d row (log_left rest trx pages store) ≡ log_left rest trx pages (restored d row store)
restored_left [] trx d pages store row = refl
restored_left (u ∷ us) trx d pages store row = same_restored trx d pages store row

-- ---- what the row before names

no_log_paged : (t trx : ℕ) (pages : List ℕ) (ls cs : List Log) → NoLog t (ls ++ cs)
    → NoLog t (on_log trx (paged pages) ls ++ cs)
no_log_paged t trx pages [] cs all = all
no_log_paged t trx pages (l ∷ ls) cs all =
    by (no_log_paged t trx pages ls cs all.1) (l.trx == trx)
  where
    by : NoLog t (on_log trx (paged pages) ls ++ cs) → (b : Bool) → NoLog t ((if b then paged pages l ∷ ls else l ∷ on_log trx (paged pages) ls) ++ cs)
    by more true = all
    by more false = (all.0, more)

distinct_paged : (trx : ℕ) (pages : List ℕ) (ls cs : List Log) → AreDistinct (ls ++ cs)
    → AreDistinct (on_log trx (paged pages) ls ++ cs)
distinct_paged trx pages [] cs all = all
distinct_paged trx pages (l ∷ ls) cs all =
    by (distinct_paged trx pages ls cs all.1) (l.trx == trx)
  where
    by : AreDistinct (on_log trx (paged pages) ls ++ cs) → (b : Bool) → AreDistinct ((if b then paged pages l ∷ ls else l ∷ on_log trx (paged pages) ls) ++ cs)
    by more true = all
    by more false = (no_log_paged l.trx trx pages ls cs all.0, more)

abbrev records_in : Option Log → Option (List (Address × Record))
records_in = option_map (λ (l : Log). l.records)

same_records : (trx t : ℕ) (pages : List ℕ) (ls : List Log)
    → records_in (log_of (on_log trx (paged pages) ls) t) ≡ records_in (log_of ls t)
same_records trx t pages [] = refl
same_records trx t pages (l ∷ ls) = elim (eqb_tells l.trx trx) [
  | inl mine ↦
      ap (λ (b : Bool). records_in (log_of (if b then paged pages l ∷ ls else l ∷ on_log trx (paged pages) ls) t)) mine.0
      ∙ here (l.trx == t)
  | inr other ↦
      ap (λ (b : Bool). records_in (log_of (if b then paged pages l ∷ ls else l ∷ on_log trx (paged pages) ls) t)) other.0
      ∙ behind (same_records trx t pages ls) (l.trx == t)
]
  where
    here : (b : Bool) → records_in (if b then Some (paged pages l) else log_of ls t)
        ≡ records_in (if b then Some l else log_of ls t)
    here true = refl
    here false = refl

    behind : records_in (log_of (on_log trx (paged pages) ls) t) ≡ records_in (log_of ls t) → (b : Bool)
        → records_in (if b then Some l else log_of (on_log trx (paged pages) ls) t)
        ≡ records_in (if b then Some l else log_of ls t)
    behind more true = refl
    behind more false = more

found_as : (o : Option Log) (rs : List (Address × Record)) → records_in o ≡ Some rs
    → (l : Log) × (o ≡ Some l) × (l.records ≡ rs)
found_as None rs e = absurd (let n : (let x : Option (List (Address × Record)) = None in x) ≡ Some rs = e in cc)
found_as (Some l) rs e = (l, refl, same l.records rs e)
  where
    same : (xs ys : List (Address × Record)) → Some xs ≡ Some ys → xs ≡ ys
    same xs ys e = cc e

names_paged : (trx t : ℕ) (pages : List ℕ) (roll : Option Address) (ls : List Log)
    → ((l : Log) (a : Address) → log_of ls t ≡ Some l → roll ≡ Some a
    → is_none (record_at l.records a) ≡ false)
    → (l : Log) (a : Address) → log_of (on_log trx (paged pages) ls) t ≡ Some l → roll ≡ Some a
    → is_none (record_at l.records a) ≡ false
names_paged trx t pages roll ls all l a found leads =
    let f = found_as (log_of ls t) l.records
    (sym (same_records trx t pages ls) ∙ ap (λ (o : Option Log). records_in o) found) in
    subst (λ (rs : List (Address × Record)). is_none (record_at rs a) ≡ false) f.2
    (all f.0 a f.1 leads)

pub can_left : (rest : List (Address × Record)) (trx d : ℕ) (pages : List ℕ) (store : Store) (row : Row)
    → CanRestore d row store → CanRestore d row (log_left rest trx pages store)
can_left [] trx d pages store row can = can
can_left (u ∷ us) trx d pages store row can = record {
  has = can.has;
  distinct = distinct_paged trx pages store.active store.committed can.distinct;
  named = names_paged trx row.trx pages row.roll store.active can.named;
}

-- ---- by the record that was read

pub can_as : (d d' : ℕ) (row row' : Row) (store : Store) → d ≡ d' → row ≡ row'
    → CanRestore d row store → CanRestore d' row' store
can_as d d' row row' store same same' can =
    subst (λ (n : ℕ). CanRestore n row' store) same (subst (λ (r : Row). CanRestore d r store) same' can)

pub ended : (s : Scene) (d : ℕ) (row : Row) (pages : List ℕ) (dir : RowDir) (new : Pages)
    → d ≡ s.undo.doc → row ≡ s.undo.before
    → RestoresRow d row dir (log_left s.rest s.trx pages (record_out s.trx s.store)) new
    → EndsRecord s dir new
ended s d row pages dir new same same' r = record {
  log_pages = pages;
  there = r.there;
  stands = subst (λ (x : Store). StandsOn r.there new (with_row_pages (row_pages r.there) x))
      (restored_left s.rest s.trx d pages (record_out s.trx s.store) row
      ∙ ap (λ (n : ℕ). log_left s.rest s.trx pages (restored n row (record_out s.trx s.store))) same
      ∙ ap (λ (x : Row). log_left s.rest s.trx pages (restored s.undo.doc x (record_out s.trx s.store))) same')
      r.stands;
  directory = r.directory;
}
