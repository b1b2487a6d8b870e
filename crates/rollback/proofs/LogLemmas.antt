-- The active log that is undone: what its calls ask for, and the store as it changes.
use Rattle.std.proofs.Common.{◌≡◌, ◌≢◌, inl, inr, ℕ, ◌+◌, ◌≤◌, ◌==◌, Bool, true, false, if◌then◌else◌, List, [], ◌∷◌, ◌++◌, Option, Some, None, Result, Ok, Err, IfOk, OnOk, refl, sym, ap, subst, ◌∙◌, arith}
use Rattle.std.proofs.lemmas.Bool.Decides.{eqb_tells}
use Rattle.page_model.specs.Pages.{Pages, Address}
use Rattle.page_model.specs.Spans.{SameOutside}
use Rattle.page_model.specs.Lists.{IsList, list_spans}
use Rattle.page_model.specs.Steps.{Becomes}
use Rattle.engine_base.specs.declared.fault.Fault.{Fault}
use Rattle.page_model.specs.Counts.{times}
use Rattle.store_data.specs.Store.{LogState, active, committed, purging, Record, Log}
use Rattle.undo_model.specs.Data.{Entry, Log as LogThere}
use Rattle.undo_model.specs.Reading.{IsRecordAt}
use Rattle.undo_model.specs.Logs.{AreChained, newest, records_of}
use Rattle.undo_model.specs.LogLists.{pages_in, all_pages, log_nodes, active_base, AreActive}
use Rattle.store_model.specs.Steps.{all_but_first, shrunk, on_log, without_log, without_record, log_of as log_in_list}
use Rattle.store_parts.specs.Appends.{CanAppend}
use Rattle.store_parts.specs.Stored.{part_pages, with_active, out}
use Rattle.store_parts.specs.Standing.{IsStoreBut}
use Rattle.store_parts.specs.Shows.{entry_of, entries_of, due_in, AreIn}
use Rattle.store_parts.specs.Logs.{ChangesLog, GivesLog}
use Rattle.store_parts.proofs.CountLemmas.{first_on}
use Rattle.store_parts.proofs.FrameLemmas.{times-parts}
use Rattle.store_parts.proofs.KeepLemmas.{recounted}
use Rattle.store_pages.proofs.NodeLemmas.{off_none, there_cut}
use Rattle.store_pages.proofs.RoomLemmas.{can_append}
use Rattle.store_pages.proofs.ActiveLemmas as Active
use Rattle.store_pages.proofs.PartLemmas.{log_out, log_in as put_log, times-logs, nodes_same}
use Rattle.store_pages.proofs.LobStoreLemmas.{plus_none, none_out}
use Rattle.store_pages.proofs.LogStoreLemmas.{found_log, in_at, in_cut, in_before, in_behind, out_at, all_out, outs_at, some_parts}
use Rattle.undo_logs.specs.Changes.{all_but_first as but_first, without_newest}
use Rattle.undo_model.specs.LogSteps.{popped}
use Rattle.undo_logs.specs.Pops.{IsListed, has_record}
use Rattle.store_steps.specs.Standing.{StandsOn}
use Rattle.store_steps.proofs.UseLemmas.{on_told}
use Rattle.rollback.specs.Standing.{Scene, IsAt}
use Rattle.rollback.specs.Records.{log_left, record_out, is_left, PopsRecord}

-- ---- facts of all active logs, but for one

in_set : (vs : List LogThere) (l m : LogThere) (bs : List LogThere) → m.parts ≢ []
    → AreIn (vs ++ l ∷ bs) → AreIn (vs ++ m ∷ bs)
in_set [] l m bs some all = (some, all.1)
in_set (v ∷ vs) l m bs some all = (all.0, in_set vs l m bs some all.1)

active_at : (vs : List LogThere) (l : LogThere) (bs : List LogThere) → AreActive (vs ++ l ∷ bs)
    → l.state ≡ active
active_at [] l bs all = all.0
active_at (v ∷ vs) l bs all = active_at vs l bs all.1

active_set : (vs : List LogThere) (l m : LogThere) (bs : List LogThere) → m.state ≡ active
    → AreActive (vs ++ l ∷ bs) → AreActive (vs ++ m ∷ bs)
active_set [] l m bs is all = (is, all.1)
active_set (v ∷ vs) l m bs is all = (all.0, active_set vs l m bs is all.1)

active_cut : (vs : List LogThere) (l : LogThere) (bs : List LogThere) → AreActive (vs ++ l ∷ bs)
    → AreActive (vs ++ bs)
active_cut [] l bs all = all.1
active_cut (v ∷ vs) l bs all = (all.0, active_cut vs l bs all.1)

-- ---- its newest record

pub record NewestIn (log : LogThere) (place : Address) (u : Record)
    (rest : List (Address × Record)) : Type 0 where
  pub entry : Entry
  pub older : List Entry
  pub records : records_of log ≡ entry ∷ older
  pub shows : entry_of entry ≡ (place, u)
  pub rest' : entries_of older ≡ rest

abbrev first_or : (Address × Record) → List (Address × Record) → Address × Record
first_or d [] = d
first_or d (x ∷ xs) = x

abbrev tail_of : List (Address × Record) → List (Address × Record)
tail_of [] = []
tail_of (x ∷ xs) = xs

newest_of : (log : LogThere) (es : List Entry) (place : Address) (u : Record)
    (rest : List (Address × Record)) → records_of log ≡ es → entries_of es ≡ (place, u) ∷ rest
    → NewestIn log place u rest
newest_of log [] place u rest is shows = absurd (let e : [] ≡ (place, u) ∷ rest = shows in cc)
newest_of log (e ∷ es) place u rest is shows = record {
  entry = e;
  older = es;
  records = is;
  shows = ap (first_or (place, u)) shows;
  rest' = ap tail_of shows;
}

all_active : (state : LogState) (next : Option Address) (es : List Entry) → state ≡ active
    → due_in state next es ≡ es
all_active active next es is = refl
all_active committed next es is = absurd (let e : committed ≡ active = is in cc)
all_active purging next es is = absurd (let e : purging ≡ active = is in cc)

-- ---- in a store

pub record ActiveAt (s : Scene) : Type 0 where
  pub log : LogThere
  pub newest' : NewestIn log s.place s.undo s.rest
  pub room : CanAppend log s.pages
  pub listed : IsListed log s.pages
  pub page : log.page ≡ s.log.page
  pub is_active : log.state ≡ active
  pub there : IsRecordAt s.pages newest'.entry.at newest'.entry.undo (newest newest'.older)
  pub changed : (new : Pages) (f : Log → Log) → ChangesLog f log s.pages new
      → StandsOn s.there new (record s.store { active = on_log s.trx f s.store.active })
  pub gone : (new : Pages) → GivesLog log s.pages new
      → StandsOn s.there new (record s.store { active = without_log s.trx s.store.active })

pub active_log : (told : Option Pages) (first : ℕ) (sc : Scene) → IsAt told first sc → ActiveAt sc
active_log told first sc a =
    let old = sc.pages in
    let store = sc.store in
    let trx = sc.trx in
    let is = a.stands.is in
    let s = is.stored in
    let at = found_log s.active trx sc.log (ap (λ ls. log_in_list ls trx) (sym is.shows.active) ∙ a.found) in
    let l = at.log in
    let held_in : (n : ℕ) → times n (pages_in l.parts) ≤ times n (part_pages s) =
    λ n. (let p = times-parts n s in
    let e : times n (all_pages s.active) ≡ times n (all_pages (at.before ++ l ∷ at.after)) =
    ap (λ ls. times n (all_pages ls)) at.cut in
    let b = times-logs n at.before l at.after in omega (arith, p, e, b)) in
    let is_active : l.state ≡ active =
    active_at at.before l at.after (subst AreActive at.cut is.whole.active) in
    let all_in : AreIn (at.before ++ l ∷ at.after) = subst AreIn at.cut is.whole.active_in in
    let parts = log_out [] old s at.before l at.after (in_at at.before l at.after all_in)
    (subst (λ ls. IsStoreBut [] old (with_active ls s)) at.cut is.standing) in
    let rest : IsStoreBut (pages_in l.parts) old (with_active (at.before ++ out l ∷ at.after) s) =
    recounted _ (pages_in l.parts) old _ (plus_none (pages_in l.parts)) parts.1 in
    let newest' : NewestIn l sc.place sc.undo sc.rest =
    newest_of l (records_of l) sc.place sc.undo sc.rest refl
    (ap entries_of (sym (all_active l.state l.next (records_of l) is_active))
    ∙ ap (λ (x : Log). x.records) at.shows ∙ a.records) in
    record {
      log = l;
      newest' = newest';
      room = can_append old s l is.standing parts.0 is_active held_in;
      listed = record {
        before = at.before;
        behind = at.after;
        list = subst (λ ls. IsList old active_base (log_nodes ls)) at.cut is.standing.active_list;
      };
      page = ap (λ (x : Log). x.page) at.shows;
      is_active = is_active;
      there = (let chain : AreChained old (newest'.entry ∷ newest'.older) =
          subst (AreChained old) newest'.records parts.0.chain in chain.0);
      changed = λ new f c.
          let m = c.after in
          let after = c.keeps (with_active (at.before ++ out l ∷ at.after) s)
          (out_at at.before l at.after all_in)
          (all_out (l.page ∷ []) s.committed is.whole.committed_in) rest in
          record {
            is = record {
              stored = with_active (at.before ++ m ∷ at.after) s;
              standing = put_log (pages_in m.parts) new s at.before (out l) at.after [] m refl
                  c.same_page after c.stands (λ n. omega arith);
              whole = record {
                active = active_set at.before l m at.after c.is_active
                    (subst AreActive at.cut is.whole.active);
                committed = is.whole.committed;
                count = is.whole.count;
                active_in = in_set at.before l m at.after
                    (some_parts new m.page m.parts c.stands.parts) all_in;
                committed_in = is.whole.committed_in;
              };
              shows = record {
                next_trx = is.shows.next_trx;
                commits = is.shows.commits;
                purged = is.shows.purged;
                rising = is.shows.rising;
                rows = is.shows.rows;
                row_pages = is.shows.row_pages;
                active = ap (λ ls. on_log trx f ls) is.shows.active ∙ at.changed f m c.shows;
                committed = is.shows.committed;
                lobs = is.shows.lobs;
              };
            };
            slots = a.stands.slots;
          };
      gone = λ new c.
          let vs = at.before in
          let bs = at.after in
          let own = pages_in l.parts in
          let left_in = in_cut vs l bs all_in in
          let nodes = nodes_same vs (out l) l bs refl in
          let un = c.unlinks vs bs (subst (IsList old active_base) nodes rest.active_list) in
          let here : 1 ≤ times l.page own = first_on old l.page l.parts parts.0.parts in
          let count : (n : ℕ) → times n (all_pages (vs ++ bs)) + times n own
          ≡ times n (all_pages (vs ++ out l ∷ bs)) + times n own =
          λ n. (let e = times-logs n vs (out l) bs in omega (arith, e)) in
          let st1 : IsStoreBut own c.unlinked (with_active (vs ++ bs) s) =
          Active.relisted own own (vs ++ out l ∷ bs) old c.unlinked
          (with_active (vs ++ out l ∷ bs) s) rest rest.active (λ n. refl)
          (outs_at own vs (out l) bs here (in_before vs l bs all_in) (in_behind vs l bs all_in))
          (subst (λ ns. SameOutside (list_spans active_base ns) old c.unlinked) (sym nodes) un.1)
          own (vs ++ bs)
          (off_none (list_spans active_base (log_nodes (vs ++ out l ∷ bs))) s.committed
          is.whole.committed_in) un.0 (there_cut c.unlinked vs (out l) bs) count in
          record {
            is = record {
              stored = with_active (vs ++ bs) s;
              standing = c.gives (with_active (vs ++ bs) s) (none_out (vs ++ bs) left_in)
                  (none_out s.committed is.whole.committed_in) st1;
              whole = record {
                active = active_cut vs l bs (subst AreActive at.cut is.whole.active);
                committed = is.whole.committed;
                count = is.whole.count;
                active_in = left_in;
                committed_in = is.whole.committed_in;
              };
              shows = record {
                next_trx = is.shows.next_trx;
                commits = is.shows.commits;
                purged = is.shows.purged;
                rising = is.shows.rising;
                rows = is.shows.rows;
                row_pages = is.shows.row_pages;
                active = ap (λ ls. without_log trx ls) is.shows.active ∙ at.gone;
                committed = is.shows.committed;
                lobs = is.shows.lobs;
              };
            };
            slots = a.stands.slots;
          };
    }

-- ---- the record goes

abbrev cut_to : List ℕ → Log → List (Address × Record) → Log
cut_to pages l us = record l { pages = pages; records = but_first us }

abbrev recorded : Log → List (Address × Record) → Log
recorded l us = record l { records = us }

abbrev paged : List ℕ → Log → Log
paged pages l = record l { pages = pages }

some_log : (x y : Log) → Some x ≡ Some y → x ≡ y
some_log x y e = cc e

found_here : (trx : ℕ) (x : Log) (xs : List Log) (l : Log) → (x.trx == trx) ≡ true
    → log_in_list (x ∷ xs) trx ≡ Some l → x ≡ l
found_here trx x xs l same found = some_log x l
    (ap (λ (b : Bool). if b then Some x else log_in_list xs trx) (sym same) ∙ found)

found_behind : (trx : ℕ) (x : Log) (xs : List Log) (l : Log) → (x.trx == trx) ≡ false
    → log_in_list (x ∷ xs) trx ≡ Some l → log_in_list xs trx ≡ Some l
found_behind trx x xs l other found =
    ap (λ (b : Bool). if b then Some x else log_in_list xs trx) (sym other) ∙ found

-- a record more is left
shrunk_log : (trx : ℕ) (ls : List Log) (l : Log) (u v : Address × Record)
    (rest : List (Address × Record)) (pages : List ℕ) → log_in_list ls trx ≡ Some l
    → l.records ≡ u ∷ v ∷ rest
    → on_log trx (without_newest pages) ls ≡ on_log trx (paged pages) (without_record trx ls)
shrunk_log trx [] l u v rest pages found records =
    absurd (let e : (let o : Option Log = None in o) ≡ Some l = found in cc)
shrunk_log trx (x ∷ xs) l u v rest pages found records = elim (eqb_tells x.trx trx) [
  | inl same ↦ (
      let r : x.records ≡ u ∷ v ∷ rest =
      ap (λ (y : Log). y.records) (found_here trx x xs l same.0 found) ∙ records in
      let P = paged pages in
      ap (λ (b : Bool). if b then without_newest pages x ∷ xs else x ∷ on_log trx (without_newest pages) xs) same.0
      ∙ ap (λ (rs : List (Address × Record)). cut_to pages x rs ∷ xs) r
      ∙ sym (ap (λ (b : Bool). on_log trx P (if b then shrunk x (all_but_first x.records) xs else x ∷ without_record trx xs)) same.0
      ∙ ap (λ (rs : List (Address × Record)). on_log trx P (shrunk x (all_but_first rs) xs)) r
      ∙ ap (λ (b : Bool). if b then P (recorded x (v ∷ rest)) ∷ xs else recorded x (v ∷ rest) ∷ on_log trx P xs) same.0)
      )
  | inr other ↦
      ap (λ (b : Bool). if b then without_newest pages x ∷ xs else x ∷ on_log trx (without_newest pages) xs) other.0
      ∙ ap (λ (ls : List Log). x ∷ ls) (shrunk_log trx xs l u v rest pages (found_behind trx x xs l other.0 found) records)
      ∙ sym (ap (λ (b : Bool). on_log trx (paged pages) (if b then shrunk x (all_but_first x.records) xs else x ∷ without_record trx xs)) other.0
      ∙ ap (λ (b : Bool). if b then paged pages x ∷ without_record trx xs else x ∷ on_log trx (paged pages) (without_record trx xs)) other.0)
]

-- it was the only one
gone_log : (trx : ℕ) (ls : List Log) (l : Log) (u : Address × Record)
    → log_in_list ls trx ≡ Some l → l.records ≡ u ∷ [] → without_log trx ls ≡ without_record trx ls
gone_log trx [] l u found records = refl
gone_log trx (x ∷ xs) l u found records = elim (eqb_tells x.trx trx) [
  | inl same ↦ (
      let r : x.records ≡ u ∷ [] =
      ap (λ (y : Log). y.records) (found_here trx x xs l same.0 found) ∙ records in
      ap (λ (b : Bool). if b then xs else x ∷ without_log trx xs) same.0
      ∙ sym (ap (λ (b : Bool). if b then shrunk x (all_but_first x.records) xs else x ∷ without_record trx xs) same.0
      ∙ ap (λ (rs : List (Address × Record)). shrunk x (all_but_first rs) xs) r)
      )
  | inr other ↦
      ap (λ (b : Bool). if b then xs else x ∷ without_log trx xs) other.0
      ∙ ap (λ (ls : List Log). x ∷ ls) (gone_log trx xs l u (found_behind trx x xs l other.0 found) records)
      ∙ sym (ap (λ (b : Bool). if b then shrunk x (all_but_first x.records) xs else x ∷ without_record trx xs) other.0)
]

is_left_entries : (es : List Entry) → has_record es ≡ is_left (entries_of es)
is_left_entries [] = refl
is_left_entries (e ∷ es) = refl

abbrev Popped : Scene → List (Address × Record) → Pages → Type 0
Popped s rest new = (pages : List ℕ)
    × StandsOn s.there new (log_left rest s.trx pages (record_out s.trx s.store))

module _ (told : Option Pages) (first : ℕ) (s : Scene) (a : IsAt told first s) where
  abbrev there_at : ActiveAt s
  there_at = active_log told first s a

  pub page_is : there_at.log.page ≡ first
  page_is = there_at.page ∙ a.page

  pub popped_left : (r : Result Bool Fault) → IfOk r (λ b. b ≡ has_record there_at.newest'.older)
      → IfOk r (λ b. b ≡ is_left s.rest)
  popped_left (Ok b) is = is ∙ is_left_entries there_at.newest'.older ∙ ap is_left there_at.newest'.rest'
  popped_left (Err e) is = tt

  pub popped_record : (r : Result Bool Fault) (after : Option Pages)
      → ((f : Entry) (older : List Entry)
      → records_of there_at.log ≡ there_at.newest'.entry ∷ f ∷ older
      → OnOk r (Becomes after (ChangesLog (without_newest (pages_in (popped there_at.log).parts))
      there_at.log s.pages)))
      → (records_of there_at.log ≡ there_at.newest'.entry ∷ []
      → OnOk r (Becomes after (GivesLog there_at.log s.pages)))
      → OnOk r (Becomes after (PopsRecord s))
  popped_record r after pops ends = by there_at.newest'.older refl
    where
      by : (es : List Entry) → there_at.newest'.older ≡ es → OnOk r (Becomes after (PopsRecord s))
      by [] is =
          let n = there_at.newest' in
          let G : List (Address × Record) → Type 0 = λ rest. OnOk r (Becomes after (Popped s rest)) in
          let rest : [] ≡ s.rest = sym (ap entries_of is) ∙ n.rest' in
          let records : s.log.records ≡ (s.place, s.undo) ∷ [] =
          a.records ∙ ap (λ us. (s.place, s.undo) ∷ us) (sym rest) in
          subst G rest (on_told r after _ _ (λ new gives. (
            [],
            subst (λ ls. StandsOn s.there new (record s.store { active = ls }))
                (gone_log s.trx s.store.active s.log _ a.found records) (there_at.gone new gives),
          )) (ends (n.records ∙ ap (λ es. n.entry ∷ es) is)))
      by (f ∷ es) is =
          let n = there_at.newest' in
          let G : List (Address × Record) → Type 0 = λ rest. OnOk r (Becomes after (Popped s rest)) in
          let rest : entry_of f ∷ entries_of es ≡ s.rest = sym (ap entries_of is) ∙ n.rest' in
          let records : s.log.records ≡ (s.place, s.undo) ∷ entry_of f ∷ entries_of es =
          a.records ∙ ap (λ us. (s.place, s.undo) ∷ us) (sym rest) in
          let pages = pages_in (popped there_at.log).parts in
          subst G rest (on_told r after _ _ (λ new ch. (
            pages,
            subst (λ ls. StandsOn s.there new (record s.store { active = ls }))
                (shrunk_log s.trx s.store.active s.log _ _ _ pages a.found records)
                (there_at.changed new (without_newest pages) ch),
          )) (pops f es (n.records ∙ ap (λ es. n.entry ∷ es) is)))
