-- Pages of logs and rows that move beside an event leave what it is said to do.
use Rattle.std.proofs.Common.{◌≡◌, ◌≢◌, ◌⊎◌, ℕ, Bool, true, false, nat_eq, List, [], ◌∷◌, ◌++◌, Some, None, refl, sym, ap, subst, ◌∙◌, if◌then◌else◌, map}
use Rattle.page_model.specs.Pages.{Address}
use Rattle.journal_model.specs.Journal.{Script, Opening}
use Rattle.store_data.specs.Store.{Record, Log, Store}
use Rattle.store_model.specs.History.{Past, history, row_before, stands}
use Rattle.store_model.specs.Steps.{on_log, log_of, all_but_first}
use Rattle.store_model.specs.Events.{Plan, with_log_pages, with_row_pages}
use Rattle.store_model.specs.Owned.{IsNotAmong, AreDifferent, AreSound}
use Rattle.store_model.specs.Consistent.{IsConsistent}
use Rattle.store_model.specs.Undo.{log_pages_left}
use Rattle.store_model.proofs.PageLemmas.{pages_changes, log_pages_keep}
use Rattle.store_model.proofs.ConsistentLemmas.{log_pages_consistent, row_pages_consistent, pages_left_consistent}
use Rattle.read_model.specs.Document.{Document}
use Rattle.read_model.specs.Flight.{IsFlight}
use Rattle.read_model.specs.OfStore.{entry, document}
use Rattle.kept_model.specs.Engine.{ReadView, Engine}
use Rattle.kept_model.specs.Names.{is_begun}
use Rattle.kept_model.specs.Sessions.{record_docs, records_of, session_records}
use Rattle.kept_model.specs.Views.{IsViewIn, IsRead, IsMaking}
use Rattle.kept_model.specs.Plans.{Plans}
use Rattle.kept_model.specs.Undoes.{Undoes, handed_flight}
use Rattle.kept_model.specs.Lasts.{Ends}
use Rattle.kept_model.specs.Passes.{Passes}
use Rattle.kept_model.specs.Paged.{with_pages, page_event}
use Rattle.kept_model.specs.Kept.{Kept}
use Rattle.kept_model.proofs.KindLemmas.{stands_on, log_on_other}
use Rattle.kept_model.proofs.FetchRows.{fetch_kept}
use Rattle.kept_model.specs.Fetches.{KeepsNewest}

-- a log found with other pages has the same records
records_on : (trx : ℕ) (pages : List ℕ) (ls : List Log) → records_of (log_of (on_log trx (λ l. record l { pages = pages }) ls) trx) ≡ records_of (log_of ls trx)
records_on trx pages [] = refl
records_on trx pages (l ∷ ls) = by_test (nat_eq l.trx trx) refl (records_on trx pages ls)
  where
    by_test : (b : Bool) → nat_eq l.trx trx ≡ b → records_of (log_of (on_log trx (λ l. record l { pages = pages }) ls) trx) ≡ records_of (log_of ls trx)
        → records_of (log_of (if b then (record l { pages = pages }) ∷ ls else l ∷ on_log trx (λ l. record l { pages = pages }) ls) trx) ≡ records_of (if b then Some l else log_of ls trx)
    by_test true e rest = ap (λ (b : Bool). records_of (if b then Some (record l { pages = pages }) else log_of ls trx)) e
    by_test false e rest = ap (λ (b : Bool). records_of (if b then Some l else log_of (on_log trx (λ l. record l { pages = pages }) ls) trx)) e ∙ rest

-- different pages without those of the rows are different
not_behind : (n : ℕ) (rows rest : List ℕ) → IsNotAmong n (rows ++ rest) → IsNotAmong n rest
not_behind n [] rest all = all
not_behind n (r ∷ rows) rest all = not_behind n rows rest all.1

different_behind : (rows rest : List ℕ) → AreDifferent (rows ++ rest) → AreDifferent rest
different_behind [] rest all = all
different_behind (r ∷ rows) rest all = different_behind rows rest all.1

without_rows : (rows rest : List ℕ) → AreDifferent (0 ∷ (rows ++ rest)) → AreDifferent (0 ∷ rest)
without_rows rows rest all = (not_behind 0 rows rest all.0, different_behind rows rest all.1)

module _ (trx : ℕ) (pages rows : List ℕ) (new : Store) where
  abbrev after : Store
  after = with_pages trx pages rows new

  pub histories : (d : ℕ) → history after d ≡ history new d
  histories d = log_pages_keep trx pages d new

  pub documents : (d : ℕ) → document after d ≡ document new d
  documents d = ap (λ cs. (let x : Document = record { row = row_before new d; records = map entry cs; lobs = new.lobs } in x)) (pages_changes trx pages d new)

  pub consistent_after : IsConsistent new → AreSound after → IsConsistent after
  consistent_after c sound =
      let bare : Store = with_row_pages [] new in
      let bare_is : IsConsistent bare = row_pages_consistent [] new c (without_rows new.row_pages _ c.sound) in
      let paged : IsConsistent (with_log_pages trx pages bare) = log_pages_consistent trx pages bare bare_is (without_rows rows _ sound) in
      row_pages_consistent rows (with_log_pages trx pages bare) paged sound

  pub stands_after : (x : ℕ) → stands x after.active ≡ stands x new.active
  stands_after x = stands_on x trx (λ l. record l { pages = pages }) new.active (λ l. refl)

  pub log_after : (x : ℕ) → x ≢ trx → log_of after.active x ≡ log_of new.active x
  log_after x other = log_on_other x trx (λ l. record l { pages = pages }) new.active (λ l. refl) other

  pub records_after : session_records after (Some trx) ≡ session_records new (Some trx)
  records_after = records_on trx pages new.active

-- pages of a log and of rows are nothing that a row shows
paged_newest : (trx : ℕ) (pages rows : List ℕ) (new : Store) (d : ℕ) (old : Store) → KeepsNewest d old new → KeepsNewest d old (with_pages trx pages rows new)
paged_newest trx pages rows new d old h = record { parts = h.parts; row = h.row }

rows_newest : (rows : List ℕ) (new : Store) (d : ℕ) (old : Store) → KeepsNewest d old new → KeepsNewest d old (with_row_pages rows new)
rows_newest rows new d old h = record { parts = h.parts; row = h.row }

-- ---- events

pub plans_move : (p : Plan) (old new : Store) (pages rows : List ℕ) → Plans p old new → AreSound (with_pages p.trx pages rows new) → Plans p old (with_pages p.trx pages rows new)
plans_move p old new pages rows plans sound = record {
  begins = record {
    own = histories p.trx pages rows new p.doc ∙ plans.begins.own;
    others = λ d other. histories p.trx pages rows new d ∙ plans.begins.others d other;
  };
  consistent = consistent_after p.trx pages rows new plans.consistent sound;
  next = plans.next;
  commits = plans.commits;
  purged = plans.purged;
  committed = plans.committed;
  active = λ x. stands_after p.trx pages rows new x ∙ plans.active x;
  logs = λ x other. log_after p.trx pages rows new x other ∙ plans.logs x other;
  log = ap record_docs (records_after p.trx pages rows new) ∙ plans.log;
  reads = λ sees d parts f unseen is. subst (λ (x : Document). IsFlight sees x parts f) (sym (documents p.trx pages rows new d)) (plans.reads sees d parts f unseen is);
  others = λ d other. paged_newest p.trx pages rows new d old (plans.others d other);
}

pub undoes_move : (trx : ℕ) (place : Address) (u : Record) (old new : Store) (pages rows : List ℕ) → Undoes trx place u old new → AreSound (with_pages trx pages rows new)
    → Undoes trx place u old (with_pages trx pages rows new)
undoes_move trx place u old new pages rows undoes sound = record {
  restores = subst (λ (hs : List Past). (hs ≡ all_but_first (history old u.doc)) ⊎ ((hs ≡ record { trx = 0; length = 0; bytes = None } ∷ []) × (all_but_first (history old u.doc) ≡ record { trx = u.before.trx; length = u.before.lob.length; bytes = None } ∷ []))) (sym (histories trx pages rows new u.doc)) undoes.restores;
  last = undoes.last;
  others = λ d other. histories trx pages rows new d ∙ undoes.others d other;
  consistent = consistent_after trx pages rows new undoes.consistent sound;
  next = undoes.next;
  commits = undoes.commits;
  purged = undoes.purged;
  committed = undoes.committed;
  active = λ x. stands_after trx pages rows new x ∙ undoes.active x;
  logs = λ x other. log_after trx pages rows new x other ∙ undoes.logs x other;
  log = undoes.log ∙ ap (λ ds. u.doc ∷ record_docs ds) (sym (records_after trx pages rows new));
  more = λ none. undoes.more (sym (records_after trx pages rows new) ∙ none);
  reads = λ sees d parts f unseen zero gone is. subst (λ (x : Document). IsFlight sees x parts (handed_flight u.doc place u d f)) (sym (documents trx pages rows new d)) (undoes.reads sees d parts f unseen zero gone is);
  elsewhere = λ d other. paged_newest trx pages rows new d old (undoes.elsewhere d other);
}

pub ends_move : (trx : ℕ) (place : Address) (u : Record) (old new : Store) (rows : List ℕ) → Ends trx place u old new → AreSound (with_row_pages rows new) → Ends trx place u old (with_row_pages rows new)
ends_move trx place u old new rows ends sound = record {
  restores = ends.restores;
  last = ends.last;
  others = ends.others;
  consistent = row_pages_consistent rows new ends.consistent sound;
  next = ends.next;
  commits = ends.commits;
  purged = ends.purged;
  committed = ends.committed;
  active = ends.active;
  gone = ends.gone;
  logs = ends.logs;
  log = ends.log;
  reads = ends.reads;
  elsewhere = λ d other. rows_newest rows new d old (ends.elsewhere d other);
}

pub passes_move : (l : Log) (ls : List Log) (u : Record) (old new : Store) (rows : List ℕ) → Passes l ls u old new → AreSound (with_row_pages rows new) → Passes l ls u old (with_row_pages rows new)
passes_move l ls u old new rows passes sound = record {
  newer = passes.newer;
  own = passes.own;
  before = passes.before;
  was = passes.was;
  mine = passes.mine;
  middle = passes.middle;
  same = passes.same;
  bytes = passes.bytes;
  now = passes.now;
  others = passes.others;
  consistent = row_pages_consistent rows new passes.consistent sound;
  next = passes.next;
  commits = passes.commits;
  purged = passes.purged;
  active = passes.active;
  log = passes.log;
  committed = passes.committed;
  log_trx = passes.log_trx;
  log_number = passes.log_number;
  log_state = passes.log_state;
  reads = passes.reads;
  shows = λ d. rows_newest rows new d old (passes.shows d);
}

-- ---- the log that is purged

module _ (o : Opening) (script : Script) (e : Engine) (l : Log) (ls : List Log) (pages : List ℕ) where
  abbrev with_committed : List Log → Engine
  with_committed ms = record e { store = record e.store { committed = ms } }

  abbrev fewer : Log
  fewer = record l { pages = pages }

  abbrev was : Engine
  was = with_committed (l ∷ ls)

  abbrev now : Engine
  now = with_committed (fewer ∷ ls)

  view_in : (v : ReadView) → IsViewIn o was.store v → IsViewIn o now.store v
  view_in v h = record { high = h.high; low = h.low; first = h.first; limit = h.limit; zero = h.zero; active = h.active; rows = h.rows }

  read_now : (s : ℕ) → IsRead o script e.journal was.store s (e.sessions s) → IsRead o script e.journal now.store s (e.sessions s)
  read_now s h d f is = let r = h d f is in record { view = r.view; is = r.is; parts = r.parts; shows = r.shows; flight = r.flight }

  making_now : (s : ℕ) → IsMaking o script e.journal was.store s (e.sessions s) → IsMaking o script e.journal now.store s (e.sessions s)
  making_now s h d left r is = let m = h d left r is in record { change = m.change; is = m.is; doc = m.doc; reply = m.reply; ok = m.ok; measured = m.measured; ends = m.ends }

  fewer_kept : Kept o script was → IsConsistent now.store → Kept o script now
  fewer_kept k c = record {
    calm = k.calm;
    counts = record { commits = k.counts.commits; purged = k.counts.purged; more = k.counts.more };
    consistent = c;
    given = k.given;
    zero = k.zero;
    logs = record { numbered = k.logs.numbered; first = k.logs.first; own = k.logs.own; apart = k.logs.apart; owned = k.logs.owned; commits = k.logs.commits; below = k.logs.below };
    stored = k.stored;
    at = k.at;
    logged = λ s. (let h = k.logged s in record { records = h.records; some = h.some });
    locks = k.locks;
    views = λ s. (let h = k.views s in record { commits = h.commits; sees = λ v is. view_in v (h.sees v is) });
    reads = λ s. read_now s (k.reads s);
    making = λ s. making_now s (k.making s);
    fetched = λ s d f h. fetch_kept d was.store now.store (record { parts = refl; row = λ is_live. refl }) f (k.fetched s d f h);
  }

  moved_keeps : Kept o script e → (ms : List Log) → e.store.committed ≡ ms → ms ≡ l ∷ ls → IsConsistent (log_pages_left pages e.store) → Kept o script (page_event pages e)
  moved_keeps k ms is first c =
      let at_first : e.store.committed ≡ l ∷ ls = is ∙ first in
      let k' : Kept o script was = subst (λ ns. Kept o script (with_committed ns)) at_first k in
      let left : IsConsistent now.store = subst (λ ns. IsConsistent (log_pages_left pages (with_committed ns).store)) at_first c in
      subst (λ ns. Kept o script (page_event pages (with_committed ns))) (sym at_first) (fewer_kept k' left)

pub page_kept : (o : Opening) (script : Script) (e : Engine) → Kept o script e → (l : Log) (ls : List Log) → e.store.committed ≡ l ∷ ls → is_begun l.state ≡ true
    → (pages : List ℕ) → AreSound (log_pages_left pages e.store) → Kept o script (page_event pages e)
page_kept o script e k l ls first begun pages sound =
    moved_keeps o script e l ls pages k e.store.committed refl first (pages_left_consistent pages e.store k.consistent sound)
