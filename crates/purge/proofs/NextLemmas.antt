-- A purge goes on: what an event asked holds again behind it.
use Rattle.std.proofs.Common.{◌≡◌, ℕ, ◌<◌, Bool, true, false, if◌then◌else◌, List, [], ◌∷◌, length, Option, Some, None, Result, Ok, Err, OnOk, refl, sym, ap, subst, ◌∙◌}
use Rattle.page_model.specs.Pages.{Pages, Address}
use Rattle.page_model.specs.Steps.{Becomes}
use Rattle.engine_base.specs.declared.fault.Fault.{Fault}
use Rattle.store_data.specs.Logs.{passed}
use Rattle.store_data.specs.Pieces.{dropped}
use Rattle.store_data.specs.Store.{LogState, active, committed, purging, Piece, Lob, Body, inserted, rebuilt, versioned, patched, removed, Record, Log, Store}
use Rattle.undo_model.specs.Rows.{RowPage}
use Rattle.store_model.specs.Consistent.{IsConsistent}
use Rattle.store_model.specs.Lobs.{lob_of, pieces_of}
use Rattle.store_model.specs.Keeps.{Frees}
use Rattle.store_model.specs.Takes.{piece_of}
use Rattle.store_model.specs.Steps.{on_lob, on_lobs, last_in, at_piece, without_piece, without_index}
use Rattle.store_model.specs.Undo.{version_dropped, purge_begun, cleared, log_pages_left, on_first}
use Rattle.store_model.proofs.WellBackLemmas.{swept_rest}
use Rattle.store_parts.specs.Stored.{row_pages}
use Rattle.row_dir.specs.declared.dir.RowDir.{RowDir}
use Rattle.store_steps.specs.declared.reached.Reached.{Reached}
use Rattle.store_steps.specs.Lobs.{IsSingle}
use Rattle.store_steps.specs.Reached.{piece_in, IsHeadAt, AreBelow}
use Rattle.store_steps.specs.Standing.{StandsOn}
use Rattle.store_steps.specs.Touched.{next_touched}
use Rattle.store_steps.proofs.KeptLemmas.{none_older_front, found_before, length_on, heads_on, head_stays, none_reached}
use Rattle.purge.specs.declared.job.Purging.{Purging}
use Rattle.purge.specs.declared.job.Step.{Step}
use Rattle.purge.specs.Events.{Event, begins, passes, dropping, freeing, freeing_lob, due_for, due_page, due_record, due_in, due, loses_version, made, behind}
use Rattle.purge.specs.Job.{AllDue, IsHeadIn, CanPurge, IsJob}
use Rattle.purge.specs.Made.{Made}
use Rattle.purge.specs.Next.{log_behind, NextCan, GoesOn}
use Rattle.purge.proofs.ConsistentLemmas.{steps}
use Rattle.purge.proofs.JobLemmas.{due_is}

-- the record is asked for nothing but another head
can_same : (last now : Option Reached) (lobs : List Lob) (es : List (Address × Record))
    → AllDue (IsHeadIn now lobs) es → AllDue (CanPurge last lobs) es → AllDue (CanPurge now lobs) es
can_same last now lobs [] kept can = tt
can_same last now lobs (u ∷ us) kept can = record {
  single = can.single;
  touched = λ n ks body m found. ((can.touched n ks body m found).0, kept m found);
}

-- a LOB that goes has no touched pieces
not_both : (b : Body) (n : ℕ) (ks : List ℕ) → Frees b → b ≡ versioned n ks → ⊥
not_both b n ks goes is = subst Frees is goes

module _ (was told : Option Pages) (job now : Purging) (there : List RowPage) (pages : Pages)
    (store : Store) (l : Log) (ls : List Log) (j : IsJob was job there pages store l ls)
    (dir : RowDir) (new : Pages) (is : told ≡ Some new) (log : job.log.0 ≡ now.log.0)
    (heads : AllDue (IsHeadIn now.dropped store.lobs) (last_in l.records)) where
  abbrev Goes : Event → Type 0
  Goes e = (m : Made e dir store new)
      → IsConsistent (made e m.free (row_pages m.there) store) → piece_in now.dropped ≡ behind e
      → NextCan e (made e m.free (row_pages m.there) store).lobs l
      → IsJob told now m.there new (made e m.free (row_pages m.there) store) (log_behind e l) ls

  job_on : (after : List RowPage) (next : Store) (m : Log) → StandsOn after new next
      → IsConsistent next → next.committed ≡ m ∷ ls → next.commits ≡ store.commits
      → m.page ≡ l.page → AllDue (CanPurge now.dropped next.lobs) (last_in m.records)
      → IsJob told now after new next m ls
  job_on after next m on right first count page can = record {
    at = record {
      told' = is;
      stands = on;
      first = first;
      few = subst (λ (n : ℕ). n < 18_446_744_073_709_551_616) (sym count) (let at = j.at in at.few);
      page = page ∙ (let at = j.at in at.page) ∙ log;
    };
    consistent = right;
    can = can;
  }

  first_on : (f : Log → Log) → on_first f store.committed ≡ f l ∷ ls
  first_on f = ap (on_first f) (let at = j.at in at.first)

  begin_on : Goes begins
  begin_on m right comes next =
      job_on m.there (purge_begun store) (record l { state = purging }) m.stands right
      (first_on (λ x. record x { state = purging })) refl refl
      (can_same job.dropped now.dropped store.lobs (last_in l.records) heads j.can)

  page_on : last_in l.records ≡ [] → (ps : List ℕ) → Goes (due_page ps)
  page_on none [] m right comes next = absurd next
  page_on none (n ∷ []) m right comes next = absurd next
  page_on none (n ∷ k ∷ more) m right comes next =
      job_on m.there (log_pages_left (k ∷ more) store) (record l { pages = k ∷ more }) m.stands right
      (first_on (λ x. record x { pages = k ∷ more })) refl refl
      (subst (AllDue (CanPurge now.dropped store.lobs)) (sym none) tt)

  module _ (u : Address × Record) (us : List (Address × Record))
      (oldest : last_in l.records ≡ u ∷ us) where
    can : CanPurge job.dropped store.lobs u.1
    can = subst (AllDue (CanPurge job.dropped store.lobs)) oldest j.can

    kept : IsHeadIn now.dropped store.lobs u.1
    kept = subst (AllDue (IsHeadIn now.dropped store.lobs)) oldest heads

    abbrev first : ℕ
    first = u.1.before.lob.page

    pass_on : Goes (passes u.0 l.trx u.1)
    pass_on m right comes next =
        let rest = swept_rest u.1.body u.0 l.trx u.1.doc
        (on_lobs (cleared u.1.body u.1.before) store) in
        job_on m.there (made (passes u.0 l.trx u.1) m.free (row_pages m.there) store) (passed l)
        m.stands right (ap (on_first passed) rest.1 ∙ first_on passed) rest.2 refl
        (subst (λ (o : Option Reached). AllDue (CanPurge o
        (made (passes u.0 l.trx u.1) m.free (row_pages m.there) store).lobs)
        (last_in (passed l).records)) (sym (none_reached now.dropped comes)) next)

    -- the LOB before changes
    lob_goes_on : (f : Lob → Lob) → ((x : Lob) → (f x).page ≡ x.page)
        → ((m : Lob) → lob_of store.lobs first ≡ Some m → (Frees u.1.body → IsSingle (f m))
        × ((n : ℕ) (ks : List ℕ) → u.1.body ≡ versioned n ks
        → AreBelow (length (f m).pieces) ks × IsHeadAt now.dropped (f m)))
        → (after : List RowPage) → StandsOn after new (on_lobs (on_lob first f) store)
        → IsConsistent (on_lobs (on_lob first f) store)
        → IsJob told now after new (on_lobs (on_lob first f) store) l ls
    lob_goes_on f same so after on right =
        let before = λ (m : Lob). found_before first f store.lobs m same in
        let at = j.at in
        let now_can : CanPurge now.dropped (on_lob first f store.lobs) u.1 = record {
          single = λ goes m found.
              let b = before m found in subst IsSingle b.2 ((so b.0 b.1).0 goes);
          touched = λ n ks body m found.
              let b = before m found in
              subst (λ (x : Lob). AreBelow (length x.pieces) ks × IsHeadAt now.dropped x) b.2
              ((so b.0 b.1).1 n ks body);
        } in
        job_on after (on_lobs (on_lob first f) store) l on right at.first refl refl
        (subst (AllDue (CanPurge now.dropped (on_lob first f store.lobs))) (sym oldest) now_can)

    freeing_on : Frees u.1.body → (ps : List Piece) (index : List ℕ)
        → Goes (freeing first (passes u.0 l.trx u.1) ps index)
    freeing_on goes [] [] m right comes next = pass_on m right comes next
    freeing_on goes [] (i ∷ more) m right comes next =
        lob_goes_on without_index (λ x. refl)
        (λ x found. (
          (λ frees'. let s = can.single frees' x found in
              record { older = s.older; bare = s.bare }),
          (λ n ks body. absurd (not_both u.1.body n ks goes body)),
        )) m.there m.stands right
    freeing_on goes (p ∷ ps) index m right comes next =
        lob_goes_on (λ x. record (without_piece x) { free = m.free }) (λ x. refl)
        (λ x found. (
          (λ frees'. let s = can.single frees' x found in
              record { older = none_older_front x.pieces s.older; bare = m.bare x found }),
          (λ n ks body. absurd (not_both u.1.body n ks goes body)),
        )) m.there m.stands right

    lob_on : Frees u.1.body → (o : Option Lob) → Goes (freeing_lob first (passes u.0 l.trx u.1) o)
    lob_on goes None m right comes next = pass_on m right comes next
    lob_on goes (Some x) m right comes next =
        freeing_on goes x.pieces x.index m right comes next

    gone_on : (n : ℕ) (ks : List ℕ) → u.1.body ≡ versioned n ks → (k : ℕ) (free : List Address)
        (after : List RowPage) (b : Bool)
        → StandsOn after new (if b then version_dropped first k free store else store)
        → IsConsistent (if b then version_dropped first k free store else store)
        → IsJob told now after new (if b then version_dropped first k free store else store) l ls
    gone_on n ks body k free after true on right =
        let f : Lob → Lob = λ x. record (at_piece k dropped x) { free = free } in
        lob_goes_on f (λ x. refl)
        (λ x found. (
          (λ goes. absurd (not_both u.1.body n ks goes body)),
          (λ n' ks' body'. (
            subst (λ (q : ℕ). AreBelow q ks') (sym (length_on k dropped x.pieces))
                (can.touched n' ks' body' x found).0,
            head_stays now.dropped x (f x) (heads_on k dropped x.pieces (λ p. refl)) (kept x found),
          )),
        )) after on right
    gone_on n ks body k free after false on right =
        job_on after store l on right (let at = j.at in at.first) refl refl
        (can_same job.dropped now.dropped store.lobs (last_in l.records) heads j.can)

    drop_on : (n : ℕ) (ks : List ℕ) → u.1.body ≡ versioned n ks → (v : ℕ) (o : Option ℕ)
        → Goes (dropping first v (passes u.0 l.trx u.1) o)
    drop_on n ks body v None m right comes next = pass_on m right comes next
    drop_on n ks body v (Some k) m right comes next =
        gone_on n ks body k m.free m.there
        (loses_version v (piece_of k (pieces_of (lob_of store.lobs first)))) m.stands right

    record_on : (b : Body) → u.1.body ≡ b → (at : Option ℕ)
        → Goes (due_for b u.1.before store.lobs at (passes u.0 l.trx u.1))
    record_on (inserted page) body at m right comes next = pass_on m right comes next
    record_on (rebuilt page) body at m right comes next =
        lob_on (subst Frees (sym body) tt) (lob_of store.lobs first) m right comes next
    record_on (versioned n ks) body at m right comes next =
        drop_on n ks body u.1.before.lob.version (next_touched at ks) m right comes next
    record_on (patched old) body at m right comes next = pass_on m right comes next
    record_on removed body at m right comes next =
        lob_on (subst Frees (sym body) tt) (lob_of store.lobs first) m right comes next

  due_on : (at : Option ℕ) (es : List (Address × Record)) → last_in l.records ≡ es
      → Goes (due_record l store.lobs at es)
  due_on at [] oldest = page_on oldest l.pages
  due_on at (u ∷ us) oldest = record_on u us oldest u.1.body refl at

  state_on : (s : LogState) (at : Option ℕ)
      → Goes (due_in s (due_record l store.lobs at (last_in l.records)))
  state_on active at = begin_on
  state_on committed at = begin_on
  state_on purging at = due_on at (last_in l.records) refl

  event_on : (at : Option ℕ) → Goes (due store at)
  event_on at = subst Goes (sym (due_is store at l ls l.state (let at = j.at in at.first) refl))
      (state_on l.state at)

  pub goes_on_from : (at : Option ℕ) → piece_in now.dropped ≡ behind (due store at)
      → Made (due store at) dir store new
      → GoesOn told (due store at) now dir store l ls new
  goes_on_from at comes m =
      let first = let at = j.at in at.first in
      let s = steps dir store new l ls at j.consistent first m in
      record { steps = s; again = λ next. event_on at s.made' s.consistent comes next }

-- by the clauses of a call
pub goes_on_by : (was told : Option Pages) (job now : Purging) (there : List RowPage) (pages : Pages)
    (store : Store) (l : Log) (ls : List Log) → IsJob was job there pages store l ls
    → (dir : RowDir) (at : Option ℕ) (r : Result Step Fault) → job.log.0 ≡ now.log.0
    → OnOk r (AllDue (IsHeadIn now.dropped store.lobs) (last_in l.records))
    → OnOk r (piece_in now.dropped ≡ behind (due store at))
    → OnOk r (Becomes told (Made (due store at) dir store))
    → OnOk r (Becomes told (GoesOn told (due store at) now dir store l ls))
goes_on_by was told job now there pages store l ls j dir at (Ok x) log heads comes makes = (
  makes.0,
  makes.1,
  goes_on_from was told job now there pages store l ls j dir makes.0 makes.1 log heads at comes makes.2,
)
goes_on_by was told job now there pages store l ls j dir at (Err f) log heads comes makes = tt
