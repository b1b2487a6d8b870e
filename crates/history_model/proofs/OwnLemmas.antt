-- How an entry changes a session's own changes, and the level of its transaction.
use Rattle.std.proofs.Common.{◌≡◌, ℕ, Bool, true, false, not, nat_eq, List, [], ◌∷◌, ◌++◌, Option, Some, None, is_some, refl, sym, arith, append-nil, ◌&&◌}
use Rattle.journal_model.specs.Documents.{Call}
use Rattle.journal_model.specs.Journal.{Script, Level, Statement, statement, call, get, size, begin, commit, rollback, Reply, Undoer, Audit, Entry, Start, View, Wait, Did, Commit, Undone, Purged, Audited, Restart}
use Rattle.journal_model.specs.Part.{made, opened, level_in, ends_by, next_part, part, own}

-- the level of the session's transaction
abbrev pub level : Script → ℕ → List Entry → Option Level
level script s past = level_in script s (part script s past)

pub record Stays (script : Script) (s : ℕ) (e : Entry) (past : List Entry) : Type 0 where
  pub own_stays : own script s (e ∷ past) ≡ own script s past
  pub level_stays : level script s (e ∷ past) ≡ level script s past

module _ (script : Script) (s : ℕ) (past : List Entry) where
  -- entries that leave a session's own calls and level
  pub start_stays : (t i : ℕ) → Stays script s (Start t i) past
  unfolding next_part
  start_stays t i = by_test (nat_eq t s) refl
    where
      by_test : (b : Bool) → nat_eq t s ≡ b → Stays script s (Start t i) past
      by_test true h = record { own_stays = rw h refl; level_stays = rw h refl }
      by_test false h = record { own_stays = rw h refl; level_stays = rw h refl }

  -- a view
  pub view_stays : (t k : ℕ) → Stays script s (View t k) past
  unfolding next_part
  view_stays t k = by_test (nat_eq t s) refl
    where
      by_test : (b : Bool) → nat_eq t s ≡ b → Stays script s (View t k) past
      by_test true h = record { own_stays = rw h refl; level_stays = rw h refl }
      by_test false h = record { own_stays = rw h refl; level_stays = rw h refl }

  -- a wait
  pub wait_stays : (t d g : ℕ) → Stays script s (Wait t d g) past
  unfolding next_part
  wait_stays t d g = by_test (nat_eq t s) refl
    where
      by_test : (b : Bool) → nat_eq t s ≡ b → Stays script s (Wait t d g) past
      by_test true h = record { own_stays = rw h refl; level_stays = rw h refl }
      by_test false h = record { own_stays = rw h refl; level_stays = rw h refl }

  -- a purge
  pub purged_stays : (c : ℕ) → Stays script s (Purged c) past
  unfolding next_part
  purged_stays c = record { own_stays = refl; level_stays = refl }

  -- an audit
  pub audited_stays : (a : Audit) → Stays script s (Audited a) past
  unfolding next_part
  audited_stays a = record { own_stays = refl; level_stays = refl }

  -- another session's commit
  pub commit_other : (t c : ℕ) → nat_eq t s ≡ false → Stays script s (Commit t c) past
  unfolding next_part
  commit_other t c h = record { own_stays = rw h refl; level_stays = rw h refl }

  -- another session's undoing
  pub undone_other : (t : ℕ) (u : Undoer) → nat_eq t s ≡ false → Stays script s (Undone t u) past
  unfolding next_part
  undone_other t u h = record { own_stays = rw h refl; level_stays = rw h refl }

  -- another session's answer
  pub did_other : (t i : ℕ) (r : Reply) → nat_eq t s ≡ false → Stays script s (Did t i r) past
  unfolding next_part
  did_other t i r h = record { own_stays = rw h refl; level_stays = rw h refl }

  -- its own commit leaves no own calls
  pub commit_own : (t c : ℕ) → nat_eq t s ≡ true → own script s (Commit t c ∷ past) ≡ []
  unfolding next_part
  commit_own t c h = rw h refl

  -- nor does its undoing
  pub undone_own : (t : ℕ) (u : Undoer) → nat_eq t s ≡ true → own script s (Undone t u ∷ past) ≡ []
  unfolding next_part
  undone_own t u h = rw h refl

  -- nor a restart
  pub restart_own : (k : ℕ) → own script s (Restart k ∷ past) ≡ []
  unfolding next_part
  restart_own k = refl

-- ---- an answer of the session

-- a change that was made ends nothing
made_goes_on : (script : Script) (s : ℕ) (b : Bool) (st : Option Statement) (r : Reply) (c : Call) → made st r ≡ Some c → ends_by script s b st r ≡ false
made_goes_on script s b None r c h = cc
made_goes_on script s b (Some (call d)) r c h = rw h (ended b)
  where
    ended : (x : Bool) → (not x && false) ≡ false
    ended true = refl
    ended false = refl
made_goes_on script s b (Some (get d)) r c h = cc
made_goes_on script s b (Some (size d)) r c h = cc
made_goes_on script s b (Some (begin l)) r c h = cc
made_goes_on script s b (Some commit) r c h = cc
made_goes_on script s b (Some rollback) r c h = cc

made_opens_none : (st : Option Statement) (r : Reply) (c : Call) → made st r ≡ Some c → opened st r ≡ None
made_opens_none None r c h = cc
made_opens_none (Some (call d)) r c h = refl
made_opens_none (Some (get d)) r c h = cc
made_opens_none (Some (size d)) r c h = cc
made_opens_none (Some (begin l)) r c h = cc
made_opens_none (Some commit) r c h = cc
made_opens_none (Some rollback) r c h = cc

module _ (script : Script) (s i : ℕ) (r : Reply) (past : List Entry) where
  -- a change that was made is the last of them
  pub did_made : (c : Call) → made (statement script s i) r ≡ Some c → own script s (Did s i r ∷ past) ≡ own script s past ++ c ∷ []
  unfolding next_part
  did_made c h =
      let goes : ends_by script s (is_some (level script s past)) (statement script s i) r ≡ false = made_goes_on script s (is_some (level script s past)) (statement script s i) r c h in
      let here : nat_eq s s ≡ true = grind arith in
      rw (here, goes, h) refl

  -- and leaves the level
  pub did_made_level : (c : Call) → made (statement script s i) r ≡ Some c → level script s (Did s i r ∷ past) ≡ level script s past
  unfolding next_part
  did_made_level c h =
      let goes : ends_by script s (is_some (level script s past)) (statement script s i) r ≡ false = made_goes_on script s (is_some (level script s past)) (statement script s i) r c h in
      let here : nat_eq s s ≡ true = grind arith in
      let opens : opened (statement script s i) r ≡ None = made_opens_none (statement script s i) r c h in
      rw (here, goes, opens) refl

  -- one that changes nothing leaves them, where it ends no transaction that has some
  pub did_kept : made (statement script s i) r ≡ None → (ends_by script s (is_some (level script s past)) (statement script s i) r ≡ true → own script s past ≡ [])
      → own script s (Did s i r ∷ past) ≡ own script s past
  unfolding next_part
  did_kept h empty = by_test (ends_by script s (is_some (level script s past)) (statement script s i) r) refl
    where
      by_test : (b : Bool) → ends_by script s (is_some (level script s past)) (statement script s i) r ≡ b → own script s (Did s i r ∷ past) ≡ own script s past
      by_test true g = let here : nat_eq s s ≡ true = grind arith in rw (here, g) (sym (empty g))
      by_test false g = let here : nat_eq s s ≡ true = grind arith in rw (here, g, h) (append-nil (own script s past))
