-- What a change reads of the newest document.
use Rattle.std.proofs.Common.{◌≡◌, ℕ, suc, Bool, true, false, true≢false, ◌||◌, nat_eq, List, [], ◌∷◌, ◌++◌, Option, Some, option_map, refl, sym, ap, subst, ◌∙◌, if◌then◌else◌, length}
use Rattle.journal_model.specs.Documents.{look, Kept as Stored}
use Rattle.journal_model.specs.Journal.{Script, Entry, Opening}
use Rattle.journal_model.specs.Part.{newest}
use Rattle.journal_model.specs.History.{Owner, session, commit, Made, History, is_sessions, is_newest_for, seen_in, newest_in, history}
use Rattle.journal_model.specs.Versions.{is_commits}
use Rattle.history_model.specs.Laws.{IsRun}
use Rattle.history_model.proofs.HistoryLemmas.{reads_own}
use Rattle.history_model.proofs.OwnedLemmas.{owned_of}
use Rattle.history_model.proofs.OwnerLemmas.{own_held}
use Rattle.history_model.proofs.SeenLemmas.{has}
use Rattle.store_data.specs.Store.{Store}
use Rattle.store_data.specs.Pieces.{Part}
use Rattle.store_model.specs.Lobs.{joined}
use Rattle.store_model.specs.History.{Past, changes, row_before, content_behind}
use Rattle.store_model.specs.History as store
use Rattle.read_model.specs.Flight.{Flight}
use Rattle.kept_model.specs.Engine.{fetching, Engine}
use Rattle.kept_model.specs.Names.{names_of, is_old, is_purging}
use Rattle.kept_model.specs.Rows.{bytes_of, IsMeasured, AreNamed, AreKnown, base_behind}
use Rattle.kept_model.specs.Stored.{Front, whole, front_of, front_by, front, ArePassed, IsStoredBy, known_from}
use Rattle.kept_model.specs.Sessions.{has_lock}
use Rattle.kept_model.specs.Views.{newest_parts}
use Rattle.kept_model.specs.Kept.{Kept}
use Rattle.kept_model.proofs.SessionLemmas.{self_eq}
use Rattle.kept_model.proofs.AnswerRows.{rows_front, shows_now}

-- ---- the newest document

-- what a row shows are its pieces, joined
content_is : (store : Store) (d : ℕ) → content_behind [] store.lobs (row_before store d) ≡ option_map joined (newest_parts store d)
content_is store d = shows_now store.lobs (row_before store d)

-- changes of a commit leave a session the newest of them
passed_newest : (s : ℕ) (b : Bool) (n : ℕ) (ms : List Made) (base : Option Stored) → ArePassed b n ms → seen_in (is_newest_for s) ms base ≡ base_behind ms base
passed_newest s true n [] base all = refl
passed_newest s true n (m ∷ ms) base all = ap (λ (b : Bool). if b then m.left else seen_in (is_newest_for s) ms base) (by_owner m.owner all.0)
  where
    by_owner : (w : Owner) → is_commits n w ≡ true → is_newest_for s w ≡ true
    by_owner (session t) h = absurd (true≢false (sym h))
    by_owner (commit c) h = refl
passed_newest s false n [] base all = refl
passed_newest s false n (m ∷ ms) base all = absurd (cc all)

module _ (o : Opening) (script : Script) (run : IsRun o script) (e : Engine) (kept : Kept o script e) (s d : ℕ) (f : Flight) (task_is : (e.sessions s).task ≡ fetching d f) where
  past : List Entry
  past = e.journal

  held : e.locks d ≡ Some s
  held = (kept.locks d).taken s (ap (has_lock d) task_is ∙ self_eq d)

  front_is : front e d ≡ whole
  front_is = ap (λ (m : Option ℕ). front_by d m e.sessions) held ∙ ap (front_of d s) task_is

  abbrev h : History
  h = history o script e.journal d

  k : IsStoredBy (known_from o e.store) script e.journal h whole (is_purging e.store.committed) (suc e.store.purged) (is_old e.store) (names_of e) (store.history e.store d)
  k = subst (λ (g : Front). IsStoredBy (known_from o e.store) script e.journal h g (is_purging e.store.committed) (suc e.store.purged) (is_old e.store) (names_of e) (store.history e.store d)) front_is (kept.stored d)

  split : h.changes ≡ k.left ++ k.passed
  split = k.changes ∙ ap (λ (g : List Made). g ++ (k.left ++ k.passed)) k.are_undone

  -- the newest change is a commit's or the session's own
  newest_own : (w : Owner) → ((t : ℕ) → w ≡ session t → has t h.changes ≡ true) → is_newest_for s w ≡ true
  newest_own (session t) there =
      let owned = sym (owned_of o script e.journal run.numbered kept.calm.legal d t) ∙ there t refl in
      let its : e.locks d ≡ Some t = (kept.locks d).held t (own_held script t d e.journal owned) in
      let one : t ≡ s = cc (sym its ∙ held) in
      ap (λ (n : ℕ). nat_eq n s) one ∙ self_eq s
  newest_own (commit c) there = refl

  on_top : (m : Made) (ms : List Made) → h.changes ≡ m ∷ ms → is_newest_for s m.owner ≡ true
  on_top m ms changes_are = newest_own m.owner (λ t is. ap (has t) changes_are ∙ ap (λ (b : Bool). b || has t ms) (ap (is_sessions t) is ∙ self_eq t))

  by_rows : (left : List Made) (rows : List Past) → k.left ≡ left → AreNamed (names_of e) (is_old e.store) left rows → AreKnown (known_from o e.store) (base_behind k.passed h.base) left rows
      → (p : Past) (qs : List Past) → rows ≡ p ∷ qs → p.bytes ≡ bytes_of (newest_in s h)
  by_rows [] [] is named known p qs rows_are = absurd (cc rows_are)
  by_rows [] (r ∷ rs) is named known p qs rows_are =
      let same : r ≡ p = cc rows_are in
      sym (ap (λ (x : Past). x.bytes) same) ∙ known.0
      ∙ ap bytes_of (sym (passed_newest s (is_purging e.store.committed) (suc e.store.purged) k.passed h.base k.are_passed))
      ∙ ap (λ (ms : List Made). bytes_of (seen_in (is_newest_for s) ms h.base)) (sym (split ∙ ap (λ (l : List Made). l ++ k.passed) is))
  by_rows (m ∷ ms) [] is named known p qs rows_are = absurd (cc rows_are)
  by_rows (m ∷ ms) (r ∷ rs) is named known p qs rows_are =
      let same : r ≡ p = cc rows_are in
      let changes_are : h.changes ≡ m ∷ (ms ++ k.passed) = split ∙ ap (λ (l : List Made). l ++ k.passed) is in
      sym (ap (λ (x : Past). x.bytes) same) ∙ known.0.0
      ∙ ap bytes_of (sym (ap (λ (l : List Made). seen_in (is_newest_for s) l h.base) changes_are
      ∙ ap (λ (b : Bool). if b then m.left else seen_in (is_newest_for s) (ms ++ k.passed) h.base) (on_top m (ms ++ k.passed) changes_are)))

  pub newest_fetched : option_map joined (newest_parts e.store d) ≡ bytes_of (look (newest o script s e.journal) d)
  newest_fetched =
      let top = rows_front [] e.store.lobs (row_before e.store d) (changes e.store d) in
      sym (content_is e.store d)
      ∙ by_rows k.left (store.history e.store d) refl
      (subst (λ (a : List Made). AreNamed (names_of e) (is_old e.store) (a ++ k.left) (store.history e.store d)) k.is_ahead k.named)
      (subst (λ (a : List Made). AreKnown (known_from o e.store) (base_behind k.passed h.base) (a ++ k.left) (store.history e.store d)) k.is_ahead k.known)
      (record { trx = (row_before e.store d).trx; length = (row_before e.store d).lob.length; bytes = content_behind [] e.store.lobs (row_before e.store d) }) top.0 top.1
      ∙ ap bytes_of (sym (reads_own o script e.journal run kept.calm.legal s d))

  -- the newest row shows what is known, and is measured by it
  first_measured : (left : List Made) (rows : List Past) → AreNamed (names_of e) (is_old e.store) left rows → AreKnown (known_from o e.store) (base_behind k.passed h.base) left rows
      → (p : Past) (qs : List Past) → rows ≡ p ∷ qs → IsMeasured p
  first_measured [] [] named known p qs rows_are = absurd (cc rows_are)
  first_measured [] (r ∷ rs) named known p qs rows_are = (let same : r ≡ p = cc rows_are in subst IsMeasured same known.1)
  first_measured (m ∷ ms) [] named known p qs rows_are = absurd (cc rows_are)
  first_measured (m ∷ ms) (r ∷ rs) named known p qs rows_are = (let same : r ≡ p = cc rows_are in subst IsMeasured same known.0.1)

  pub newest_measured : (ps : List Part) → newest_parts e.store d ≡ Some ps → (row_before e.store d).lob.length ≡ length (joined ps)
  newest_measured ps is =
      let top = rows_front [] e.store.lobs (row_before e.store d) (changes e.store d) in
      first_measured k.left (store.history e.store d)
      (subst (λ (a : List Made). AreNamed (names_of e) (is_old e.store) (a ++ k.left) (store.history e.store d)) k.is_ahead k.named)
      (subst (λ (a : List Made). AreKnown (known_from o e.store) (base_behind k.passed h.base) (a ++ k.left) (store.history e.store d)) k.is_ahead k.known)
      (record { trx = (row_before e.store d).trx; length = (row_before e.store d).lob.length; bytes = content_behind [] e.store.lobs (row_before e.store d) }) top.0 top.1
      (joined ps) (content_is e.store d ∙ ap (option_map joined) is)
