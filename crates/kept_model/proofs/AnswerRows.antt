-- The answer to a change: its entry may follow, and the documents' rows stay told.
use Rattle.std.proofs.Common.{◌≡◌, ◌≢◌, ◌⊎◌, inl, inr, ℕ, suc, ◌+◌, ◌≤◌, ◌<◌, Bool, true, false, true≢false, not, ◌&&◌, ◌||◌, nat_eq, nat_lt, nat_le, List, [], ◌∷◌, ◌++◌, map, reverse, length, Option, Some, None, is_some, IfSome, option_and_then, option_to_list, refl, sym, ap, ap₂, subst, ◌∙◌, arith, if◌then◌else◌, option_map}
use Rattle.std.proofs.lemmas.Bool.{cases_eq}
use Rattle.std.proofs.lemmas.List.{map-id}
use Rattle.journal_model.specs.Documents.{Call, call_doc}
use Rattle.journal_model.specs.Journal.{Script, Level, Statement, statement, call, Reply, deadlock, missing, exists, same, deep, large, no_room, full, part as parted, done, inside, doc, sized, absent, restarted, memory, Entry, Did, Opening}
use Rattle.journal_model.specs.Part.{is_ok_reply, is_deadlock, is_memory, made, level_in, next_part, part, unanswered, newest, ends_by, opened}
use Rattle.journal_model.specs.Replies.{reply_to}
use Rattle.journal_model.specs.Locks.{sessions, holds, first_holder, other_than, other_holder, chain, circle}
use Rattle.journal_model.specs.Legal.{has_deadlock, commit_due, is_restarting, restart_due, Answer, MayAnswer, Allowed}
use Rattle.journal_model.specs.History.{Owner, session, commit, Made, History, pushed, with_call, history}
use Rattle.store_data.specs.Store.{RowState, Row, Record, Lob, Store}
use Rattle.store_data.specs.Store as store_of
use Rattle.store_data.specs.Pieces.{Part}
use Rattle.store_model.specs.Lobs.{joined, parts}
use Rattle.store_model.specs.Runs.{put_back}
use Rattle.store_model.specs.History.{Change, Past, changes as row_changes, row_before, history_behind, content_behind}
use Rattle.store_model.specs.History as store
use Rattle.kept_model.specs.Engine.{nothing, making, Session, Engine}
use Rattle.kept_model.specs.Names.{names_of, is_old, is_purging}
use Rattle.kept_model.specs.Stored.{Front, whole, begun, undone, front_of, front_by, front, IsAhead, IsStoredBy, known_from, IsStored}
use Rattle.kept_model.specs.Sessions.{has_lock}
use Rattle.kept_model.specs.Views.{completed, shown_by, will_show, IsMakingOf}
use Rattle.kept_model.specs.Kept.{Kept, IsCalmAt}
use Rattle.kept_model.specs.Answers.{answered_session, change_answered, due_of}
use Rattle.kept_model.proofs.StoredLemmas.{answer_stored, untouched}
use Rattle.kept_model.proofs.PassedLemmas.{any_owner}
use Rattle.kept_model.proofs.PlanKept.{stored_over}
use Rattle.kept_model.specs.Ended.{SaysSame}
use Rattle.kept_model.proofs.FrameLemmas.{says_same, under_way_same}
use Rattle.kept_model.proofs.SessionLemmas.{self_eq, apart_of, not_eq, by_session}
use Rattle.kept_model.proofs.CommitLegal.{if_some, not_due}

-- ---- replies that say that something changed

pub not_restart : (r : Reply) → is_ok_reply r ≡ true → (s i : ℕ) (past : List Entry) (o : Opening) (script : Script) → is_restarting o script (Did s i r ∷ past) ≡ false
not_restart full ok s i past o script = refl
not_restart (parted n) ok s i past o script = refl
not_restart done ok s i past o script = refl
not_restart restarted ok s i past o script = absurd (true≢false (sym ok))
not_restart (deadlock l) ok s i past o script = refl
not_restart missing ok s i past o script = refl
not_restart exists ok s i past o script = refl
not_restart same ok s i past o script = refl
not_restart deep ok s i past o script = refl
not_restart large ok s i past o script = refl
not_restart (no_room n m) ok s i past o script = refl
not_restart inside ok s i past o script = refl
not_restart (doc t) ok s i past o script = refl
not_restart (sized n m) ok s i past o script = refl
not_restart absent ok s i past o script = refl
not_restart memory ok s i past o script = refl

-- an answer that is ok is neither a deadlock nor a lack of memory
pub gets_lock : (r : Reply) → is_ok_reply r ≡ true → (not (is_deadlock r) && not (is_memory r)) ≡ true
gets_lock full ok = refl
gets_lock (parted n) ok = refl
gets_lock done ok = refl
gets_lock restarted ok = absurd (true≢false (sym ok))
gets_lock (deadlock l) ok = absurd (true≢false (sym ok))
gets_lock missing ok = refl
gets_lock exists ok = refl
gets_lock same ok = refl
gets_lock deep ok = refl
gets_lock large ok = refl
gets_lock (no_room n m) ok = refl
gets_lock inside ok = refl
gets_lock (doc t) ok = refl
gets_lock (sized n m) ok = refl
gets_lock absent ok = refl
gets_lock memory ok = absurd (true≢false (sym ok))

-- an answer that is ok leaves whether the journal has a deadlock
pub no_deadlock : (r : Reply) → is_ok_reply r ≡ true → (s i : ℕ) (p : List Entry) → has_deadlock (Did s i r ∷ p) ≡ has_deadlock p
no_deadlock full ok s i p = refl
no_deadlock (parted n) ok s i p = refl
no_deadlock done ok s i p = refl
no_deadlock restarted ok s i p = refl
no_deadlock (deadlock l) ok s i p = absurd (true≢false (sym ok))
no_deadlock missing ok s i p = refl
no_deadlock exists ok s i p = refl
no_deadlock same ok s i p = refl
no_deadlock deep ok s i p = refl
no_deadlock large ok s i p = refl
no_deadlock (no_room n m) ok s i p = refl
no_deadlock inside ok s i p = refl
no_deadlock (doc t) ok s i p = refl
no_deadlock (sized n m) ok s i p = refl
no_deadlock absent ok s i p = refl
no_deadlock memory ok s i p = refl

pub may_answer : (o : Opening) (script : Script) (s i : ℕ) (c : Call) (past : List Entry) (r : Reply) → is_ok_reply r ≡ true → statement script s i ≡ Some (call c)
    → circle script s (call_doc c) past ≡ [] → other_holder script s (call_doc c) past ≡ None → r ≡ reply_to c (newest o script s past) → MayAnswer o script s i r past
may_answer o script s i c past full ok is calm alone replies = if_some (λ st. Answer o script s st full past) (statement script s i) (call c) is (calm, (alone, replies))
may_answer o script s i c past (parted n) ok is calm alone replies = if_some (λ st. Answer o script s st (parted n) past) (statement script s i) (call c) is (calm, (alone, replies))
may_answer o script s i c past done ok is calm alone replies = if_some (λ st. Answer o script s st done past) (statement script s i) (call c) is (calm, (alone, replies))
may_answer o script s i c past restarted ok is calm alone replies = absurd (true≢false (sym ok))
may_answer o script s i c past (deadlock l) ok is calm alone replies = absurd (true≢false (sym ok))
may_answer o script s i c past missing ok is calm alone replies = absurd (true≢false (sym ok))
may_answer o script s i c past exists ok is calm alone replies = absurd (true≢false (sym ok))
may_answer o script s i c past same ok is calm alone replies = absurd (true≢false (sym ok))
may_answer o script s i c past deep ok is calm alone replies = absurd (true≢false (sym ok))
may_answer o script s i c past large ok is calm alone replies = absurd (true≢false (sym ok))
may_answer o script s i c past (no_room n m) ok is calm alone replies = absurd (true≢false (sym ok))
may_answer o script s i c past inside ok is calm alone replies = absurd (true≢false (sym ok))
may_answer o script s i c past (doc t) ok is calm alone replies = absurd (true≢false (sym ok))
may_answer o script s i c past (sized n m) ok is calm alone replies = absurd (true≢false (sym ok))
may_answer o script s i c past absent ok is calm alone replies = absurd (true≢false (sym ok))
may_answer o script s i c past memory ok is calm alone replies = absurd (true≢false (sym ok))

-- nobody but the session holds the document
pub alone_holds : (script : Script) (s d : ℕ) (past : List Entry) → ((h : ℕ) → holds script h d past ≡ true → h ≡ s) → (hs : List ℕ) → other_than script s (first_holder script hs d past) ≡ None
alone_holds script s d past alone [] = refl
alone_holds script s d past alone (h ∷ hs) = by_test (holds script h d past) refl (alone_holds script s d past alone hs)
  where
    by_test : (b : Bool) → holds script h d past ≡ b → other_than script s (first_holder script hs d past) ≡ None → other_than script s (if b then Some h else first_holder script hs d past) ≡ None
    by_test true e rest = ap (λ (c : Bool). if c then None else Some h) (ap (λ (q : ℕ). nat_eq q s) (alone h e) ∙ self_eq s)
    by_test false e rest = rest

-- ---- the newest row

-- the newest row of a history is the row itself, with the bytes that it shows
pub rows_front : (later : List Record) (lobs : List Lob) (row : Row) (cs : List Change)
    → (ps : List Past) × (history_behind later lobs row cs ≡ record { trx = row.trx; length = row.lob.length; bytes = content_behind later lobs row } ∷ ps)
rows_front later lobs row [] = ([], refl)
rows_front later lobs row (c ∷ cs) = (history_behind (later ++ c.undo ∷ []) lobs c.undo.before cs, refl)

pub shows_now : (lobs : List Lob) (row : Row) → content_behind [] lobs row ≡ will_show nothing lobs row
shows_now lobs row = by_state row.state
  where
    by_state : (st : RowState) → store.shown st (map (put_back []) (parts lobs row.lob)) ≡ option_map (completed nothing) (shown_by st (parts lobs row.lob))
    by_state store_of.absent = refl
    by_state store_of.live = ap (λ (ps : List Part). Some (joined ps)) (map-id (parts lobs row.lob))
    by_state store_of.deleted = refl

-- a map over two lists joined is that over each, joined
pub map_append : {A B : Type 0} (f : A → B) (xs ys : List A) → map f (xs ++ ys) ≡ map f xs ++ map f ys
map_append f [] ys = refl
map_append f (x ∷ xs) ys = ap (λ zs. f x ∷ zs) (map_append f xs ys)

module _ (o : Opening) (script : Script) (e : Engine) (kept : Kept o script e) (s i d : ℕ) (r : Reply) (lv : Option Level)
    (task_is : (e.sessions s).task ≡ making d nothing r) (inside_is : (e.sessions s).level ≡ lv) (under : unanswered s e.journal ≡ Some i) where
  abbrev pub new : Engine
  new = change_answered s i r e

  abbrev pub x' : Session
  x' = answered_session (e.sessions s)

  abbrev pub m : IsMakingOf o script e.journal e.store s d nothing r
  m = kept.making s d nothing r task_is

  abbrev pub c : Call
  c = (kept.making s d nothing r task_is).change

  pub statement_is : statement script s i ≡ Some (call c)
  statement_is = sym (ap (λ (u : Option ℕ). option_and_then (λ k. statement script s k) u) under) ∙ m.is

  pub made_is : made (statement script s i) r ≡ Some c
  made_is = ap (λ (st : Option Statement). made st r) statement_is ∙ ap (λ (b : Bool). if b then Some c else None) m.ok

  pub level_is : level_in script s (part script s e.journal) ≡ lv
  level_is = sym (kept.at s).level ∙ inside_is

  pub held : e.locks d ≡ Some s
  held = (kept.locks d).taken s (ap (has_lock d) task_is ∙ self_eq d)

  pub alone : other_holder script s (call_doc c) e.journal ≡ None
  alone = alone_holds script s (call_doc c) e.journal (λ h holds_it.
      cc (sym ((kept.locks d).held h (ap (λ (q : ℕ). holds script h q e.journal) (sym m.doc) ∙ holds_it)) ∙ held)) sessions

  pub no_circle : circle script s (call_doc c) e.journal ≡ []
  no_circle = ap (λ (other : Option ℕ). Rattle.std.proofs.Common.unwrap_or (option_and_then (λ h. chain script 64 s h e.journal) other) []) alone

  pub answer_allowed : Allowed o script (Did s i r) e.journal
  answer_allowed = (not_due o script e.journal kept.calm s i 0 (Did s i r), (under, may_answer o script s i c e.journal r m.ok statement_is no_circle alone m.reply))

  pub due_is : (k : Option Level) → (if true && not (is_some k) then Some s else None) ≡ due_of s k
  due_is None = refl
  due_is (Some k) = refl

  pub calm_kept : IsCalmAt (due_of s lv) o script new.journal
  calm_kept = record {
    legal = (kept.calm.legal, answer_allowed);
    commit = ap₂ (λ (a b : Bool). if a && not b then Some s else None) (ap is_some made_is) (ap is_some level_is) ∙ due_is lv;
    restart = ap (λ (b : Bool). if b then Rattle.journal_model.specs.Legal.first_unanswered o script sessions (Did s i r ∷ e.journal) else None) (not_restart r m.ok s i e.journal o script);
  }

  pub ends_not : (b : Bool) → ends_by script s b (statement script s i) r ≡ false
  ends_not b = ap (λ (st : Option Statement). ends_by script s b st r) statement_is
      ∙ ap (λ (ok : Bool). not b && (not (is_some (if ok then Some c else None)) && not (is_some (opened (Some (call c)) r)))) m.ok ∙ and_false (not b)
    where
      and_false : (a : Bool) → (a && false) ≡ false
      and_false true = refl
      and_false false = refl

  pub part_is : part script s new.journal ≡ Did s i r ∷ part script s e.journal
  unfolding next_part
  part_is = rw (self_eq s, ends_not (is_some (level_in script s (part script s e.journal)))) refl

  pub elses : (t : ℕ) → nat_eq t s ≡ false → SaysSame script t e.journal new.journal
  elses t apart = says_same script t (Did s i r ∷ []) e.journal (not_eq s t (λ same. apart_of t s (sym same) apart), tt)

  pub history_is : (q : ℕ) → history o script new.journal q ≡ (if nat_eq (call_doc c) q then pushed s c (history o script e.journal q) else history o script e.journal q)
  history_is q = ap (λ (k : Option Call). with_call q s k (history o script e.journal q)) made_is

  -- ---- documents

  pub trx_same : (t : ℕ) → (new.sessions t).trx ≡ (e.sessions t).trx
  trx_same = by_session (λ t x. x.trx ≡ (e.sessions t).trx) s x' e.sessions refl (λ t apart. refl)

  pub names_same : (w : Owner) (x : ℕ) → names_of e w ≡ Some x → names_of new w ≡ Some x
  names_same (session t) x has = trx_same t ∙ has
  names_same (commit k) x has = has

  pub front_was : front e d ≡ begun s
  front_was = ap (λ (k : Option ℕ). front_by d k e.sessions) held ∙ ap (front_of d s) task_is ∙ ap (λ (b : Bool). if b then begun s else whole) (self_eq d)

  pub front_now : front new d ≡ whole
  front_now = ap (λ (k : Option ℕ). front_by d k new.sessions) held
      ∙ by_session (λ t x. t ≡ s → front_of d t x.task ≡ whole) s x' e.sessions (λ one. refl) (λ t apart one. absurd (apart_of t s one apart)) s refl

  pub front_same : (q : ℕ) → q ≢ d → front new q ≡ front e q
  front_same q other = by_lock (e.locks q)
    where
      by_lock : (k : Option ℕ) → front_by q k new.sessions ≡ front_by q k e.sessions
      by_lock None = refl
      by_lock (Some t) = by_session (λ t x. front_of q t x.task ≡ front_of q t (e.sessions t).task) s x' e.sessions
          (sym (ap (front_of q s) task_is ∙ ap (λ (b : Bool). if b then begun s else whole) (not_eq d q (λ one. other (sym one))))) (λ t apart. refl) t

  -- another session's planned change of another document
  pub ahead_same : (q : ℕ) → q ≢ d → (f : Front) → front e q ≡ f → (ms : List Made) → IsAhead script e.journal (history o script e.journal q) f ms → IsAhead script new.journal (history o script e.journal q) f ms
  ahead_same q other whole f_is ms h = h
  ahead_same q other (begun t) f_is ms h = (h.0, under_way_same script t e.journal new.journal (elses t (not_eq t s (λ one. absurd (not_mine one)))) ∙ h.1, h.2)
    where
      not_mine : t ≡ s → ⊥
      not_mine one =
          let its = Rattle.kept_model.proofs.CommitRows.begun_held q (e.locks q) e.sessions t f_is in
          let rests : front_by q (e.locks q) e.sessions ≡ whole =
          ap (λ (k : Option ℕ). front_by q k e.sessions) (its ∙ ap (λ (n : ℕ). Some n) one) ∙ ap (front_of q s) task_is ∙ ap (λ (b : Bool). if b then begun s else whole) (not_eq d q (λ g. other (sym g))) in
          cc (sym f_is ∙ rests)
  ahead_same q other (undone t) f_is ms h = h

  abbrev pub By : History → Front → List Entry → ℕ → Type 0
  By h f past q = IsStoredBy (known_from o e.store) script past h f (is_purging e.store.committed) (suc e.store.purged) (is_old e.store) (names_of e) (store.history e.store q)

  pub renamed : (q : ℕ) (h : History) (f : Front) → By h f new.journal q → IsStoredBy (known_from o e.store) script new.journal h f (is_purging e.store.committed) (suc e.store.purged) (is_old e.store) (names_of new) (store.history e.store q)
  renamed q h f k = stored_over (known_from o e.store) (known_from o e.store) script new.journal h f (is_purging e.store.committed) (is_purging e.store.committed) (suc e.store.purged) (suc e.store.purged)
      (is_old e.store) (is_old e.store) (names_of e) (names_of new) (store.history e.store q) refl refl refl (λ x old. old) names_same k

  pub own_stored : By (pushed s c (history o script e.journal d)) whole new.journal d
  own_stored =
      let rows = rows_front [] e.store.lobs (row_before e.store d) (row_changes e.store d) in
      answer_stored (known_from o e.store) script e.journal new.journal (is_purging e.store.committed) (suc e.store.purged) (is_old e.store) (names_of e) (store.history e.store d) s
      (history o script e.journal d) (record { trx = (row_before e.store d).trx; length = (row_before e.store d).lob.length; bytes = content_behind [] e.store.lobs (row_before e.store d) }) rows.0 c rows.1 m.is
      (shows_now e.store.lobs (row_before e.store d) ∙ m.ends, λ bs is. m.measured bs (sym (shows_now e.store.lobs (row_before e.store d)) ∙ is))
      (subst (λ (f : Front). By (history o script e.journal d) f e.journal d) front_was (kept.stored d))

  pub stored_kept : (q : ℕ) → IsStored o script new q
  stored_kept q = elim (cases_eq q d) [
    | inl here ↦ subst (IsStored o script new) (sym here)
        (subst (λ (f : Front). IsStoredBy (known_from o e.store) script new.journal (history o script new.journal d) f (is_purging e.store.committed) (suc e.store.purged) (is_old e.store) (names_of new) (store.history e.store d)) (sym front_now)
        (renamed d (history o script new.journal d) whole
        (subst (λ (h : History). By h whole new.journal d) (sym (history_is d ∙ ap (λ (b : Bool). if b then pushed s c (history o script e.journal d) else history o script e.journal d) (ap (λ (n : ℕ). nat_eq n d) m.doc ∙ self_eq d))) own_stored)))
    | inr other ↦
        subst (λ (f : Front). IsStoredBy (known_from o e.store) script new.journal (history o script new.journal q) f (is_purging e.store.committed) (suc e.store.purged) (is_old e.store) (names_of new) (store.history e.store q)) (sym (front_same q other))
        (renamed q (history o script new.journal q) (front e q)
        (subst (λ (h : History). By h (front e q) new.journal q)
        (sym (history_is q ∙ ap (λ (b : Bool). if b then pushed s c (history o script e.journal q) else history o script e.journal q) (not_eq (call_doc c) q (λ one. other (sym one ∙ m.doc)))))
        (untouched (λ w. Unit {0}) (known_from o e.store) script e.journal new.journal (history o script e.journal q) (front e q) (is_purging e.store.committed) (suc e.store.purged)
        (is_old e.store) (is_old e.store) (names_of e) (names_of e) (store.history e.store q) (λ w x u has. has) (λ x old. old) (ahead_same q other (front e q) refl) (kept.stored q) (any_owner _))))
  ]
