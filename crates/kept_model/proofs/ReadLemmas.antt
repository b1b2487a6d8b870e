-- What a session's view sees in the store is what the journal shows it; so a read begins, goes on, and answers right.
use Rattle.std.proofs.Common.{◌≡◌, ℕ, suc, ◌≤◌, Bool, true, false, true≢false, not, ◌&&◌, ◌||◌, nat_eq, nat_lt, List, [], ◌∷◌, ◌++◌, Option, Some, None, option_and_then, refl, sym, ap, ap₂, subst, ◌∙◌, if◌then◌else◌}
use Rattle.journal_model.specs.Documents.{look, Kept as Stored}
use Rattle.journal_model.specs.Journal.{Script, Entry, Opening}
use Rattle.journal_model.specs.Part.{own, touches, view_of, docs, newest, shown}
use Rattle.journal_model.specs.History.{Owner, session, commit, Made, is_sessions, is_among, is_newest_for, seen_in, history}
use Rattle.journal_model.specs.Versions.{is_commits}
use Rattle.history_model.specs.Laws.{IsRun}
use Rattle.history_model.specs.Sound.{OfOwners, IsWithin, IsOver, AreOrdered}
use Rattle.history_model.proofs.HistoryLemmas.{reads_own}
use Rattle.history_model.proofs.OrderLemmas.{ordered_of}
use Rattle.history_model.proofs.OwnedLemmas.{owned_of}
use Rattle.history_model.proofs.OwnerLemmas.{one_owner}
use Rattle.history_model.proofs.SeenLemmas.{has, IsNot, not_has}
use Rattle.store_model.specs.History.{Past, seen, stands, under}
use Rattle.store_model.specs.History as store
use Rattle.kept_model.specs.Engine.{ReadView, is_own, sees_by, Task, idle, making, reading, undoing, Session, Engine}
use Rattle.kept_model.specs.Names.{names_of, floor, is_old, is_purging}
use Rattle.kept_model.specs.Rows.{bytes_of, AreNamed, AreKnown, base_behind}
use Rattle.kept_model.specs.Stored.{Front, whole, begun, undone, front_of, front_by, IsAhead, ArePassed, IsStoredBy, known_from, IsStored, front}
use Rattle.kept_model.specs.Views.{AllPast, IsViewIn}
use Rattle.kept_model.specs.Kept.{Kept}
use Rattle.kept_model.proofs.SessionLemmas.{self_eq, is_eq}
use Rattle.kept_model.proofs.CommitRows.{begun_held, undone_held, of_parts, of_both, one_owner_is}
use Rattle.kept_model.proofs.ShownLemmas.{named_seen, most_seen, under_is_stored}
use Rattle.kept_model.proofs.MeasuredLemmas.{SeenMeasured, measured_alike, measured_front}

seen_past : (f g : ℕ → Bool) (ps : List Past) → AllPast (λ x. f x ≡ g x) ps → seen f ps ≡ seen g ps
seen_past f g [] all = refl
seen_past f g (p ∷ ps) all = ap₂ (λ (b : Bool) (o : Option (List ℕ)). if b then p.bytes else o) all.0 (seen_past f g ps all.1)

-- what follows from two facts follows for the transactions of all rows of which both hold
pub both_past : (P Q R : ℕ → Type 0) (ps : List Past) → ((x : ℕ) → P x → Q x → R x) → AllPast P ps → AllPast Q ps → AllPast R ps
both_past P Q R [] so all more = tt
both_past P Q R (p ∷ ps) so all more = (so p.trx all.0 more.0, both_past P Q R ps so all.1 more.1)

-- rows of other owners
pub rows_off : (P : ℕ → Type 0) (s : ℕ) (names : Owner → Option ℕ) (old : ℕ → Bool) (ms : List Made) (ps : List Past)
    → ((w : Owner) (x : ℕ) → IsNot s w → names w ≡ Some x → P x) → ((x : ℕ) → old x ≡ true → P x) → OfOwners (IsNot s) ms → AreNamed names old ms ps → AllPast P ps
unfolding OfOwners
rows_off P s names old [] [] so oldest all named = absurd named
rows_off P s names old [] (p ∷ []) so oldest all named = (oldest p.trx named, tt)
rows_off P s names old [] (p ∷ q ∷ ps) so oldest all named = absurd named
rows_off P s names old (m ∷ ms) [] so oldest all named = absurd named
rows_off P s names old (m ∷ ms) (p ∷ ps) so oldest all named = (so m.owner p.trx all.0 named.0, rows_off P s names old ms ps so oldest all.1 named.1)

-- a history with a change of the session has one on top, where no other session has any
commits_none : (s c : ℕ) (ms : List Made) → OfOwners (IsWithin c) ms → has s ms ≡ false
unfolding OfOwners
commits_none s c [] all = refl
commits_none s c (m ∷ ms) all = ap₂ (λ (a b : Bool). a || b) (isnt m.owner all.0) (commits_none s c ms all.1)
  where
    isnt : (w : Owner) → IsWithin c w → is_sessions s w ≡ false
    isnt (session t) h = absurd h
    isnt (commit d) h = refl

has_front : (s : ℕ) (m : Made) (ms : List Made) → is_sessions s m.owner ≡ true → has s (m ∷ ms) ≡ true
has_front s m ms is = ap (λ (b : Bool). b || has s ms) is

top_is : (s : ℕ) (m : Made) (ms : List Made) → AreOrdered (m ∷ ms) → has s (m ∷ ms) ≡ true → ((t : ℕ) → has t (m ∷ ms) ≡ true → t ≡ s) → m.owner ≡ session s
unfolding AreOrdered
top_is s m ms ordered there alone = by_owner m.owner refl
  where
    by_owner : (w : Owner) → m.owner ≡ w → w ≡ session s
    by_owner (session t) e = ap session (alone t (has_front t m ms (ap (is_sessions t) e ∙ self_eq t)))
    by_owner (commit c) e =
        let none = commits_none s c ms (subst (λ (w : Owner). IsOver w ms) e ordered.0) in
        absurd (true≢false (sym there ∙ ap₂ (λ (a b : Bool). a || b) (ap (is_sessions s) e) none))

passed_none : (s : ℕ) (b : Bool) (n : ℕ) (ms : List Made) → ArePassed b n ms → has s ms ≡ false
passed_none s true n [] all = refl
passed_none s true n (m ∷ ms) all = ap₂ (λ (a b : Bool). a || b) (isnt m.owner all.0) (passed_none s true n ms all.1)
  where
    isnt : (w : Owner) → is_commits n w ≡ true → is_sessions s w ≡ false
    isnt (session t) h = absurd (true≢false (sym h))
    isnt (commit d) h = refl
passed_none s false n [] all = refl
passed_none s false n (m ∷ ms) all = absurd (cc all)

-- what a session shows under so many commits
abbrev pub shown_at : Opening → Script → ℕ → ℕ → ℕ → List Entry → Option Stored
shown_at o script s d k past = if touches d (own script s past) then look (newest o script s past) d else look (docs o script past k) d

-- a session whose view has k commits shows what it shows under k commits
pub shown_is : (o : Opening) (script : Script) (s d k : ℕ) (past : List Entry) → view_of script s past ≡ Some k → shown o script s d past ≡ shown_at o script s d k past
shown_is o script s d k past is = ap (λ (w : Option ℕ). if touches d (own script s past) then look (newest o script s past) d else option_and_then (λ q. look (docs o script past q) d) w) is

module _ (o : Opening) (script : Script) (run : IsRun o script) (e : Engine) (kept : Kept o script e) (s : ℕ) (v : ReadView) (inside : IsViewIn o e.store v)
    (d : ℕ) (still : (left : Rattle.kept_model.specs.Engine.Left) (r : Rattle.journal_model.specs.Journal.Reply) → (e.sessions s).task ≡ making d left r → ⊥)
    (calm : (u : Rattle.journal_model.specs.Journal.Undoer) → (e.sessions s).task ≡ undoing u → ⊥) where
  past : List Entry
  past = e.journal

  -- the session is at no work on the document
  front_apart : (t : ℕ) → front e d ≡ begun t → t ≡ s → ⊥
  front_apart t is_begun same =
      let held = begun_held d (e.locks d) e.sessions t is_begun in
      not_making (e.sessions s).task still (sym (ap (λ (m : Option ℕ). front_by d m e.sessions) (held ∙ ap (λ (q : ℕ). Some q) same)) ∙ is_begun)
    where
      not_making : (k : Task) → ((left : Rattle.kept_model.specs.Engine.Left) (r : Rattle.journal_model.specs.Journal.Reply) → k ≡ making d left r → ⊥) → front_of d s k ≡ begun t → ⊥
      not_making idle never h = absurd (cc h)
      not_making (Rattle.kept_model.specs.Engine.asking q) never h = absurd (cc h)
      not_making (Rattle.kept_model.specs.Engine.fetching q ps) never h = absurd (cc h)
      not_making (making q left r) never h = by_test (nat_eq q d) refl h
        where
          by_test : (b : Bool) → nat_eq q d ≡ b → (if b then begun s else whole) ≡ begun t → ⊥
          by_test true g h = never left r (ap (λ (n : ℕ). making n left r) (is_eq q d g))
          by_test false g h = absurd (cc h)
      not_making (reading q f) never h = absurd (cc h)
      not_making (undoing u) never h = absurd (cc h)

  from : known_from o e.store ≤ v.commits
  from = by_test (nat_lt o.commits (floor e.store))
    where
      by_test : (b : Bool) → (if b then floor e.store else o.commits) ≤ v.commits
      by_test true = inside.low
      by_test false = inside.first

  -- no own change: it sees of these rows what its view's commits have
  pub rows_alike : touches d (own script s e.journal) ≡ false → AllPast (λ x. sees_by (e.sessions s).trx v x ≡ store.is_among e.store v.commits x) (store.history e.store d)
  rows_alike none =
      both_past (λ x. is_own (e.sessions s).trx x ≡ false) (λ x. sees_by None v x ≡ store.is_among e.store v.commits x) _ (store.history e.store d)
      (λ x not_own same. ap (λ (b : Bool). b || sees_by None v x) not_own ∙ same) (off (e.sessions s).trx refl) (inside.rows d)
    where
      st : IsStored o script e d
      st = kept.stored d

      ahead_not : (f : Front) → front e d ≡ f → (ms : List Made) → IsAhead script e.journal (history o script e.journal d) f ms → OfOwners (IsNot s) ms
      ahead_not whole f_is ms h = subst (OfOwners (IsNot s)) (sym h) no_owners
        where
          no_owners : OfOwners (IsNot s) []
          no_owners = not_has s [] refl
      ahead_not (begun t) f_is ms h = subst (OfOwners (IsNot s)) (sym h.2) (one_owner_is s t h.0 (history o script e.journal d) (apart (nat_eq t s) refl))
        where
          apart : (b : Bool) → nat_eq t s ≡ b → b ≡ false
          apart true g = absurd (front_apart t f_is (is_eq t s g))
          apart false g = refl
      ahead_not (undone t) f_is ms h = subst (OfOwners (IsNot s)) (sym h) (not_has s [] refl)

      owners : OfOwners (IsNot s) (st.ahead ++ st.left)
      owners =
          let none_in = not_has s (history o script e.journal d).changes (owned_of o script e.journal run.numbered kept.calm.legal d s ∙ none) in
          let parts = of_parts (IsNot s) st.gone (st.left ++ st.passed) (subst (OfOwners (IsNot s)) st.changes none_in) in
          of_both (IsNot s) st.ahead st.left (ahead_not (front e d) refl st.ahead st.is_ahead) (of_parts (IsNot s) st.left st.passed parts.1).0

      off : (m : Option ℕ) → (e.sessions s).trx ≡ m → AllPast (λ x. is_own m x ≡ false) (store.history e.store d)
      off None has = rows_off (λ x. is_own None x ≡ false) s (names_of e) (is_old e.store) (st.ahead ++ st.left) (store.history e.store d) (λ w x isnt named. refl) (λ x old. refl) owners st.named
      off (Some y) has = rows_off (λ x. is_own (Some y) x ≡ false) s (names_of e) (is_old e.store) (st.ahead ++ st.left) (store.history e.store d)
          (λ w x isnt named. by_name w x isnt named (nat_eq x y) refl) (λ x old. by_old x old (nat_eq x y) refl) owners st.named
        where
          by_name : (w : Owner) (x : ℕ) → IsNot s w → names_of e w ≡ Some x → (b : Bool) → nat_eq x y ≡ b → b ≡ false
          by_name w x isnt named false g = refl
          by_name (session t) x isnt named true g =
              let one : t ≡ s = kept.logs.apart t s y (named ∙ ap (λ (n : ℕ). Some n) (is_eq x y g)) has in
              absurd (true≢false (sym (ap (λ (n : ℕ). nat_eq n s) one ∙ self_eq s) ∙ isnt))
          by_name (commit c) x isnt named true g =
              absurd (true≢false (sym (kept.logs.own s y has).0 ∙ ap (λ (n : ℕ). stands n e.store.active) (sym (is_eq x y g)) ∙ (kept.logs.commits c x named).0))

          by_old : (x : ℕ) → is_old e.store x ≡ true → (b : Bool) → nat_eq x y ≡ b → b ≡ false
          by_old x old false g = refl
          by_old x old true g = absurd (not_active (nat_lt x e.store.next_trx) (stands x e.store.active) (ap (λ (n : ℕ). stands n e.store.active) (is_eq x y g) ∙ (kept.logs.own s y has).0) old)
            where
              not_active : (a b : Bool) → b ≡ true → (a && (not b && not (Rattle.store_model.specs.History.stands_above (floor e.store) x e.store.committed))) ≡ true → ⊥
              not_active true true h g = true≢false (sym g)
              not_active true false h g = true≢false (sym h)
              not_active false b h g = true≢false (sym g)

  pub view_shows : touches d (own script s e.journal) ≡ false → seen (sees_by (e.sessions s).trx v) (store.history e.store d) ≡ bytes_of (shown_at o script s d v.commits e.journal)
  view_shows none =
      seen_past (sees_by (e.sessions s).trx v) (store.is_among e.store v.commits) (store.history e.store d) (rows_alike none)
      ∙ under_is_stored o script e kept v.commits from run d
      ∙ ap bytes_of (sym (ap (λ (b : Bool). if b then look (newest o script s e.journal) d else look (docs o script e.journal v.commits) d) none))

  pub view_measured : touches d (own script s e.journal) ≡ false → SeenMeasured (sees_by (e.sessions s).trx v) (store.history e.store d)
  view_measured none =
      let st = kept.stored d in
      measured_alike (sees_by (e.sessions s).trx v) (store.is_among e.store v.commits) (store.history e.store d) (rows_alike none)
      (measured_front (names_of e) (is_old e.store) (known_from o e.store) (store.is_among e.store v.commits) (is_among v.commits) (base_behind st.passed (history o script e.journal d).base)
      (named_seen o script e kept v.commits from) (most_seen o script e kept v.commits from) (λ t. refl) script e.journal (history o script e.journal d)
      (front e d) st.ahead st.left (store.history e.store d) st.is_ahead st.named st.known)

  -- an own change: the newest row is the session's
  own_top : e.locks d ≡ Some s → touches d (own script s e.journal) ≡ true
      → (seen (sees_by (e.sessions s).trx v) (store.history e.store d) ≡ bytes_of (shown_at o script s d v.commits e.journal))
      × SeenMeasured (sees_by (e.sessions s).trx v) (store.history e.store d)
  own_top held there = by_left k.left refl
    where
      st : IsStored o script e d
      st = kept.stored d

      front_whole : (f : Front) → front e d ≡ f → f ≡ whole
      front_whole whole h = refl
      front_whole (begun t) h = absurd (front_apart t h (cc (sym (begun_held d (e.locks d) e.sessions t h) ∙ held)))
      front_whole (undone t) h =
          let same : t ≡ s = cc (sym (undone_held d (e.locks d) e.sessions t h) ∙ held) in
          absurd (not_undoing (e.sessions s).task calm (sym (ap (λ (m : Option ℕ). front_by d m e.sessions) held) ∙ h))
        where
          not_undoing : (k : Task) → ((u : Rattle.journal_model.specs.Journal.Undoer) → k ≡ undoing u → ⊥) → front_of d s k ≡ undone t → ⊥
          not_undoing idle never h = absurd (cc h)
          not_undoing (Rattle.kept_model.specs.Engine.asking q) never h = absurd (cc h)
          not_undoing (Rattle.kept_model.specs.Engine.fetching q ps) never h = absurd (cc h)
          not_undoing (making q left r) never h = by_test (nat_eq q d) h
            where
              by_test : (b : Bool) → (if b then begun s else whole) ≡ undone t → ⊥
              by_test true h = absurd (cc h)
              by_test false h = absurd (cc h)
          not_undoing (reading q f) never h = absurd (cc h)
          not_undoing (undoing u) never h = never u refl

      k : IsStoredBy (known_from o e.store) script e.journal (history o script e.journal d) whole (is_purging e.store.committed) (suc e.store.purged) (is_old e.store) (names_of e) (store.history e.store d)
      k = subst (λ (f : Front). IsStoredBy (known_from o e.store) script e.journal (history o script e.journal d) f (is_purging e.store.committed) (suc e.store.purged) (is_old e.store) (names_of e) (store.history e.store d)) (front_whole (front e d) refl) st

      has_own : has s (history o script e.journal d).changes ≡ true
      has_own = owned_of o script e.journal run.numbered kept.calm.legal d s ∙ there

      split : (history o script e.journal d).changes ≡ k.left ++ k.passed
      split = k.changes ∙ ap (λ (g : List Made). g ++ (k.left ++ k.passed)) k.are_undone

      alone : (t : ℕ) → has t (history o script e.journal d).changes ≡ true → t ≡ s
      alone t h = one_owner o script e.journal run.numbered kept.calm.legal d t s (sym (owned_of o script e.journal run.numbered kept.calm.legal d t) ∙ h) there

      by_rows : (m : Made) (ms : List Made) (ps : List Past) → k.left ≡ m ∷ ms → AreNamed (names_of e) (is_old e.store) (m ∷ ms) ps → AreKnown (known_from o e.store) (Rattle.kept_model.specs.Rows.base_behind k.passed (history o script e.journal d).base) (m ∷ ms) ps
          → (seen (sees_by (e.sessions s).trx v) ps ≡ bytes_of (shown_at o script s d v.commits e.journal)) × SeenMeasured (sees_by (e.sessions s).trx v) ps
      by_rows m ms [] left_is named known = absurd named
      by_rows m ms (p ∷ ps) left_is named known =
          let changes_are : (history o script e.journal d).changes ≡ m ∷ (ms ++ k.passed) = split ∙ ap (λ (l : List Made). l ++ k.passed) left_is in
          let top : m.owner ≡ session s = top_is s m (ms ++ k.passed) (subst AreOrdered changes_are (ordered_of o script run e.journal d kept.calm.legal))
          (sym (ap (has s) changes_are) ∙ has_own) (λ t h. alone t (ap (has t) changes_are ∙ h)) in
          let mine : (e.sessions s).trx ≡ Some p.trx = sym (ap (names_of e) top) ∙ named.0 in
          let seen_own : sees_by (e.sessions s).trx v p.trx ≡ true =
          ap (λ (m : Option ℕ). is_own m p.trx || sees_by None v p.trx) mine ∙ ap (λ (b : Bool). b || sees_by None v p.trx) (self_eq p.trx) in (
            ap (λ (b : Bool). if b then p.bytes else seen (sees_by (e.sessions s).trx v) ps) seen_own
                ∙ known.0.0
                ∙ ap bytes_of (sym (
                ap (λ (b : Bool). if b then look (newest o script s e.journal) d else look (docs o script e.journal v.commits) d) there
                ∙ reads_own o script e.journal run kept.calm.legal s d
                ∙ ap (λ (l : List Made). seen_in (is_newest_for s) l (history o script e.journal d).base) changes_are
                ∙ ap (λ (b : Bool). if b then m.left else seen_in (is_newest_for s) (ms ++ k.passed) (history o script e.journal d).base) (ap (is_newest_for s) top ∙ self_eq s))),
            ((λ is. known.0.1), λ unseen. absurd (true≢false (sym seen_own ∙ unseen))),
          )

      by_left : (left : List Made) → k.left ≡ left
          → (seen (sees_by (e.sessions s).trx v) (store.history e.store d) ≡ bytes_of (shown_at o script s d v.commits e.journal)) × SeenMeasured (sees_by (e.sessions s).trx v) (store.history e.store d)
      by_left [] left_is = absurd (true≢false (sym has_own ∙ ap (has s) (split ∙ ap (λ (l : List Made). l ++ k.passed) left_is) ∙ passed_none s (is_purging e.store.committed) (suc e.store.purged) k.passed k.are_passed))
      by_left (m ∷ ms) left_is = by_rows m ms (store.history e.store d) left_is
          (subst (λ (l : List Made). AreNamed (names_of e) (is_old e.store) l (store.history e.store d)) left_is
          (subst (λ (a : List Made). AreNamed (names_of e) (is_old e.store) (a ++ k.left) (store.history e.store d)) k.is_ahead k.named))
          (subst (λ (l : List Made). AreKnown (known_from o e.store) (Rattle.kept_model.specs.Rows.base_behind k.passed (history o script e.journal d).base) l (store.history e.store d)) left_is
          (subst (λ (a : List Made). AreKnown (known_from o e.store) (Rattle.kept_model.specs.Rows.base_behind k.passed (history o script e.journal d).base) (a ++ k.left) (store.history e.store d)) k.is_ahead k.known))

  pub own_shows : e.locks d ≡ Some s → touches d (own script s e.journal) ≡ true
      → seen (sees_by (e.sessions s).trx v) (store.history e.store d) ≡ bytes_of (shown_at o script s d v.commits e.journal)
  own_shows held there = (own_top held there).0

  pub own_measured : e.locks d ≡ Some s → touches d (own script s e.journal) ≡ true → SeenMeasured (sees_by (e.sessions s).trx v) (store.history e.store d)
  own_measured held there = (own_top held there).1
