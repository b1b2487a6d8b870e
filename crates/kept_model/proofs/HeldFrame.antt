-- The versions held of a document that an event leaves.
use Rattle.std.proofs.Common.{◌≡◌, ℕ, zero, suc, ◌≤◌, Bool, List, [], ◌∷◌, ◌++◌, length, Option, Some, None, refl, sym, ap, subst, ◌∙◌, arith}
use Rattle.journal_model.specs.Journal.{Script, Entry, Opening}
use Rattle.journal_model.specs.Held.{Kind, inserted, rebuilt, versioned, patched, removed, HeldLob}
use Rattle.journal_model.specs.History.{Owner, session, commit, Made, History, history}
use Rattle.store_data.specs.Store.{Log}
use Rattle.store_model.specs.History.{Change, changes}
use Rattle.kept_model.specs.Engine.{Left, Session, Engine}
use Rattle.kept_model.specs.Names.{names, names_of, is_purging}
use Rattle.kept_model.specs.Stored.{Front, front_of, front_by, front, IsAhead}
use Rattle.kept_model.specs.Held.{part_kind, IsPart, AreTheirs, rest_of, rest_by, rest, IsHeldBy, IsHeld, lob_list}

pub theirs_so : (names names' : Owner → Option ℕ) (ms : List Made) (cs : List Change) → ((w : Owner) (x : ℕ) → names w ≡ Some x → names' w ≡ Some x) → AreTheirs names ms cs → AreTheirs names' ms cs
theirs_so names names' [] [] same h = h
theirs_so names names' [] (c ∷ cs) same h = absurd h
theirs_so names names' (m ∷ ms) [] same h = absurd h
theirs_so names names' (m ∷ ms) (c ∷ cs) same h = (same m.owner c.trx h.0, h.1, theirs_so names names' ms cs same h.2)

-- the same facts under other words
pub held_over : (script : Script) (past past' : List Entry) (h h' : History) (f f' : Front) (r r' : Left) (b b' : Bool) (n n' : ℕ) (names names' : Owner → Option ℕ) (cs cs' : List Change) (lobs lobs' : List HeldLob)
    → h' ≡ h → f' ≡ f → r' ≡ r → b' ≡ b → n' ≡ n → cs' ≡ cs → lobs' ≡ lobs
    → ((ms : List Made) → IsAhead script past h f ms → IsAhead script past' h f ms) → ((ms : List Made) → AreTheirs names ms cs → AreTheirs names' ms cs)
    → IsHeldBy script past h f r b n names cs lobs → IsHeldBy script past' h' f' r' b' n' names' cs' lobs'
held_over script past past' h h' f f' r r' b b' n n' names names' cs cs' lobs lobs' is_h is_f is_r is_b is_n is_cs is_lobs ahead theirs k =
    subst (λ x. IsHeldBy script past' x f' r' b' n' names' cs' lobs') (sym is_h)
    (subst (λ x. IsHeldBy script past' h x r' b' n' names' cs' lobs') (sym is_f)
    (subst (λ x. IsHeldBy script past' h f x b' n' names' cs' lobs') (sym is_r)
    (subst (λ x. IsHeldBy script past' h f r x n' names' cs' lobs') (sym is_b)
    (subst (λ x. IsHeldBy script past' h f r b x names' cs' lobs') (sym is_n)
    (subst (λ x. IsHeldBy script past' h f r b n names' x lobs') (sym is_cs)
    (subst (λ x. IsHeldBy script past' h f r b n names' cs x) (sym is_lobs) (record {
      ahead = k.ahead;
      gone = k.gone;
      left = k.left;
      half = k.half;
      passed = k.passed;
      is = k.is;
      is_ahead = ahead k.ahead k.is_ahead;
      are_undone = k.are_undone;
      is_half = k.is_half;
      are_passed = k.are_passed;
      theirs = theirs (k.ahead ++ (k.left ++ k.half)) k.theirs;
      done = k.done;
      dropped = k.dropped;
      is_done = k.is_done;
      are_dropped = k.are_dropped;
      held = k.held;
    })))))))

-- transactions of sessions and committed logs stay
pub names_over : (e e' : Engine) → ((t : ℕ) → (e'.sessions t).trx ≡ (e.sessions t).trx) → e'.store.committed ≡ e.store.committed → (w : Owner) (x : ℕ) → names_of e w ≡ Some x → names_of e' w ≡ Some x
names_over e e' trx logs (session t) x h = trx t ∙ h
names_over e e' trx logs (commit c) x h = ap (λ (ls : List Log). Rattle.kept_model.specs.Names.trx_numbered ls c) logs ∙ h

-- who is at work on a document: its lock and that session's task stay
pub same_front : (d : ℕ) (l : Option ℕ) (tasks tasks' : ℕ → Session) → ((t : ℕ) → l ≡ Some t → front_of d t (tasks' t).task ≡ front_of d t (tasks t).task) → front_by d l tasks' ≡ front_by d l tasks
same_front d None tasks tasks' same = refl
same_front d (Some t) tasks tasks' same = same t refl

pub same_rest : (d : ℕ) (l : Option ℕ) (tasks tasks' : ℕ → Session) → ((t : ℕ) → l ≡ Some t → rest_of d (tasks' t).task ≡ rest_of d (tasks t).task) → rest_by d l tasks' ≡ rest_by d l tasks
same_rest d None tasks tasks' same = refl
same_rest d (Some t) tasks tasks' same = same t refl

-- ---- a document of an engine: the store and the journal tell the same of it, and who is at work
-- on it is at the same
pub record IsLeft (o : Opening) (script : Script) (e e' : Engine) (d : ℕ) : Type 0 where
  pub history : history o script e'.journal d ≡ history o script e.journal d
  pub front : front e' d ≡ front e d
  pub rest : rest e' d ≡ rest e d
  pub ahead : (ms : List Made) → IsAhead script e.journal (Rattle.journal_model.specs.History.history o script e.journal d) (Rattle.kept_model.specs.Stored.front e d) ms
      → IsAhead script e'.journal (Rattle.journal_model.specs.History.history o script e.journal d) (Rattle.kept_model.specs.Stored.front e d) ms
  pub changes : changes e'.store d ≡ changes e.store d
  pub lobs : lob_list e'.store d ≡ lob_list e.store d

-- where the owners' transactions may go, but not those of these changes
pub held_by : (o : Opening) (script : Script) (e e' : Engine) (d : ℕ) → is_purging e'.store.committed ≡ is_purging e.store.committed → e'.store.purged ≡ e.store.purged
    → ((ms : List Made) → AreTheirs (names_of e) ms (changes e.store d) → AreTheirs (names_of e') ms (changes e.store d)) → IsLeft o script e e' d → IsHeld o script e d → IsHeld o script e' d
held_by o script e e' d passing purged theirs k h =
    held_over script e.journal e'.journal (history o script e.journal d) (history o script e'.journal d) (front e d) (front e' d) (rest e d) (rest e' d)
    (is_purging e.store.committed) (is_purging e'.store.committed) (suc e.store.purged) (suc e'.store.purged) (names_of e) (names_of e')
    (changes e.store d) (changes e'.store d) (lob_list e.store d) (lob_list e'.store d)
    k.history k.front k.rest passing (ap suc purged) k.changes k.lobs k.ahead theirs h

pub held_left : (o : Opening) (script : Script) (e e' : Engine) (d : ℕ) → is_purging e'.store.committed ≡ is_purging e.store.committed → e'.store.purged ≡ e.store.purged
    → ((w : Owner) (x : ℕ) → names_of e w ≡ Some x → names_of e' w ≡ Some x) → IsLeft o script e e' d → IsHeld o script e d → IsHeld o script e' d
held_left o script e e' d passing purged same k h =
    held_by o script e e' d passing purged (λ ms. theirs_so (names_of e) (names_of e') ms (changes e.store d) same) k h

-- ---- a change that is whole is its part at all of its pieces

abbrev pub numbers : ℕ → List ℕ
numbers zero = []
numbers (suc n) = n ∷ numbers n

pub many : (n : ℕ) → length (numbers n) ≡ n
many zero = refl
many (suc n) = ap suc (many n)

pub whole_part : (k : Kind) → (done : List ℕ) × (part_kind done k ≡ k) × IsPart done k
whole_part (inserted n) = (numbers n, ap inserted (many n), subst (λ m. m ≤ n) (sym (many n)) (omega arith))
whole_part (rebuilt n) = (numbers n, ap rebuilt (many n), subst (λ m. m ≤ n) (sym (many n)) (omega arith))
whole_part (versioned t) = (t, refl, λ k h. h)
whole_part patched = ([], refl, tt)
whole_part removed = ([], refl, tt)
