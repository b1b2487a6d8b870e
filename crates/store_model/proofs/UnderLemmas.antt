-- What each event keeps of the documents under a number of commits.
use Rattle.std.proofs.Common.{◌≡◌, inl, inr, ℕ, suc, ◌≤◌, Bool, true, false, not, ◌&&◌, ◌||◌, ◌==◌, nat_lt, if◌then◌else◌, List, [], ◌∷◌, ◌++◌, Some, is_some, refl, sym, ap, ap₂, subst, ◌∙◌}
use Rattle.std.proofs.lemmas.Bool.{cases_eq, le-ltb, ne_eqb}
use Rattle.page_model.specs.Pages.{Address}
use Rattle.store_data.specs.Logs.{with_record, passed}
use Rattle.store_data.specs.Pieces.{piece_at, dropped}
use Rattle.store_data.specs.Store.{Row, Body, Lob, Record, Log, Store}
use Rattle.store_model.specs.Lobs.{lob_of}
use Rattle.store_model.specs.History.{Past, history, row_before, seen, stands, stands_above, is_among, under, content}
use Rattle.store_model.specs.Steps.{on_lobs, on_log, log_of, all_but_first, last_in}
use Rattle.store_model.specs.Events.{Plan, record_of, planned}
use Rattle.store_model.specs.Undo.{on_first, on_oldest, cleared, record_passed, purge_begun, log_pages_left, log_purged, piece_freed, index_freed, version_dropped}
use Rattle.store_model.specs.Behind.{AtPiece}
use Rattle.store_model.specs.Moves.{MayChange, Begins, KeepsOlder}
use Rattle.store_model.specs.Purging.{SeesSame}
use Rattle.store_model.specs.Well.{NoLog, AreDistinct, IsWell}
use Rattle.store_model.specs.Keeps.{IsVersioned, Frees, KeepsUnder}
use Rattle.store_model.proofs.CommitLemmas.{seen-same}
use Rattle.store_model.proofs.PurgeLemmas.{seen_under, begun_keeps, pages_keep, log_keeps, log_among}
use Rattle.store_model.proofs.WellBackLemmas.{swept_rest}
use Rattle.store_model.proofs.DistinctLemmas.{none_parts}
use Rattle.store_model.proofs.GivesLemmas.{piece_sees, index_sees, drop_sees, pass_sees}

-- ---- the purged transaction is among the first commits from its own on

none_stands : (x : ℕ) (ls : List Log) → NoLog x ls → stands x ls ≡ false
none_stands x [] none = refl
none_stands x (l ∷ ls) none = rw (ne_eqb l.trx x none.0) (none_stands x ls none.1)

none_above : (k x : ℕ) (ls : List Log) → NoLog x ls → stands_above k x ls ≡ false
none_above k x [] none = refl
none_above k x (l ∷ ls) none = rw (ne_eqb l.trx x none.0) (by_test (nat_lt k l.number) (none_above k x ls none.1))
  where
    by_test : (b : Bool) → stands_above k x ls ≡ false → ((b && false) || stands_above k x ls) ≡ false
    by_test true rest = rest
    by_test false rest = rest

-- of logs of different transactions, none before or behind one has its transaction
pub distinct_behind : (ls : List Log) (l : Log) (ms : List Log) → AreDistinct (ls ++ l ∷ ms) → NoLog l.trx ls × NoLog l.trx ms
distinct_behind [] l ms all = (tt, all.0)
distinct_behind (m ∷ ns) l ms all = let r = distinct_behind ns l ms all.1 in (((λ e. (none_parts m.trx ns (l ∷ ms) all.0).1.0 (sym e)), r.0), r.1)

pub first_among : (store : Store) (l : Log) (ls : List Log) (k : ℕ) → IsWell store → store.committed ≡ l ∷ ls → l.number ≤ k → is_among store k l.trx ≡ true
first_among store l ls k well first below =
    let r = distinct_behind store.active l ls (subst (λ ms. AreDistinct (store.active ++ ms)) first well.logs) in
    ap₂ (λ (a b : Bool). not a && not b) (none_stands l.trx store.active r.0)
    (ap (stands_above k l.trx) first ∙ ap₂ (λ (a b : Bool). (a && (l.trx == l.trx)) || b) (le-ltb k l.number below) (none_above k l.trx ls r.1))

above_first : (k x : ℕ) (f : Log → Log) (ls : List Log) → ((l : Log) → (f l).trx ≡ l.trx) → ((l : Log) → (f l).number ≡ l.number) → stands_above k x (on_first f ls) ≡ stands_above k x ls
above_first k x f [] t n = refl
above_first k x f (l ∷ ls) t n = ap₂ (λ (a b : ℕ). (nat_lt k a && (b == x)) || stands_above k x ls) (n l) (t l)

among_first : (k x : ℕ) (f : Log → Log) (store : Store) → ((l : Log) → (f l).trx ≡ l.trx) → ((l : Log) → (f l).number ≡ l.number) → is_among (on_oldest f store) k x ≡ is_among store k x
among_first k x f store t n = ap (λ (b : Bool). not (stands x store.active) && not b) (above_first k x f store.committed t n)

pub among_passed : (k x : ℕ) (a : Address) (trx : ℕ) (u : Record) (store : Store) → is_among (record_passed a trx u store) k x ≡ is_among store k x
among_passed k x a trx u store = let r = swept_rest u.body a trx u.doc (on_lobs (cleared u.body u.before) store) in
    ap₂ (λ (ls ms : List Log). not (stands x ls) && not (stands_above k x (on_first passed ms))) r.0 r.1 ∙ among_first k x passed store (λ l. refl) (λ l. refl)

-- ---- purge

pub sees_keep : (store new : Store) (l : Log) (ls : List Log) → IsWell store → store.committed ≡ l ∷ ls → ((d : ℕ) → SeesSame l.trx d store new) → ((k x : ℕ) → is_among new k x ≡ is_among store k x) → KeepsUnder l.number store new
sees_keep store new l ls well first same among d k below = seen_under l.trx d k store new (same d) (first_among store l ls k well first below) (among k)

module _ (a : Address) (u : Record) (store : Store) (l : Log) (ls : List Log) (well : IsWell store) (first : store.committed ≡ l ∷ ls) (oldest : last_in l.records ≡ (a, u) ∷ []) where
  pub pass_under : KeepsUnder l.number store (record_passed a l.trx u store)
  pass_under = sees_keep store (record_passed a l.trx u store) l ls well first (pass_sees a u store l ls well first oldest) (λ k x. among_passed k x a l.trx u store)

  pub piece_under : (free : List Address) → Frees u.body → KeepsUnder l.number store (piece_freed u.before.lob.page free store)
  piece_under free frees = sees_keep store (piece_freed u.before.lob.page free store) l ls well first (piece_sees a u store l ls well first oldest free frees) (λ k x. refl)

  pub index_under : Frees u.body → KeepsUnder l.number store (index_freed u.before.lob.page store)
  index_under frees = sees_keep store (index_freed u.before.lob.page store) l ls well first (index_sees a u store l ls well first oldest frees) (λ k x. refl)

  pub drop_under : (k : ℕ) (free : List Address) → IsVersioned u.body
      → ((m : Lob) → lob_of store.lobs u.before.lob.page ≡ Some m → AtPiece k (λ p. is_some (piece_at (dropped p) (suc u.before.lob.version)) ≡ true) m.pieces)
      → KeepsUnder l.number store (version_dropped u.before.lob.page k free store)
  drop_under k free versioned_so stays = sees_keep store (version_dropped u.before.lob.page k free store) l ls well first (drop_sees a u store l ls well first oldest k free versioned_so stays) (λ n x. refl)

-- where purge begins, each document shows the same under each number of commits
pub begun_under : (store : Store) → KeepsUnder 0 store (purge_begun store)
begun_under store d k below = ap (seen (is_among (purge_begun store) k)) (begun_keeps d store) ∙ seen-same _ _ (history store d) (λ x. among_first k x _ store (λ l. refl) (λ l. refl))

-- so where the first committed log gets other pages
pub pages_under : (pages : List ℕ) (store : Store) → KeepsUnder 0 store (log_pages_left pages store)
pages_under pages store d k below = ap (seen (is_among (log_pages_left pages store) k)) (pages_keep d pages store) ∙ seen-same _ _ (history store d) (λ x. among_first k x _ store (λ l. refl) (λ l. refl))

-- so from its own commit number on, where the first log goes, which has no records left
pub log_under : (store : Store) (l : Log) (ls : List Log) → store.committed ≡ l ∷ ls → l.records ≡ [] → KeepsUnder l.number store (log_purged store)
log_under store l ls first none d k below = ap (seen (is_among (log_purged store) k)) (log_keeps d store l ls first none) ∙ seen-same _ _ (history store d) (λ x. log_among k x store l ls first below)

-- ---- changes: an active transaction is among no first commits

-- a transaction that has an active log is among no first commits
pub open_unseen : (store : Store) (k trx : ℕ) → stands trx store.active ≡ true → is_among store k trx ≡ false
open_unseen store k trx there = ap (λ (b : Bool). not b && not (stands_above k trx store.committed)) there

seen_behind : (sees : ℕ → Bool) (h : Past) (hs : List Past) → sees h.trx ≡ false → seen sees (h ∷ hs) ≡ seen sees hs
seen_behind sees h hs none = rw none refl

-- the rows behind decide, where the newest is not seen
pub seen_older : (sees : ℕ → Bool) (hs : List Past) (h : Past) (rest : List Past) → hs ≡ h ∷ rest → sees h.trx ≡ false → seen sees hs ≡ seen sees (all_but_first hs)
seen_older sees hs h rest e none = ap (seen sees) e ∙ seen_behind sees h rest none ∙ ap (λ xs. seen sees (all_but_first xs)) (sym e)

stands_on : (trx x : ℕ) (place : Address) (u : Record) (ls : List Log) → stands x (on_log trx (with_record place u) ls) ≡ stands x ls
stands_on trx x place u [] = refl
stands_on trx x place u (l ∷ ls) = by_test (l.trx == trx) (stands_on trx x place u ls)
  where
    by_test : (b : Bool) → stands x (on_log trx (with_record place u) ls) ≡ stands x ls → stands x (if b then with_record place u l ∷ ls else l ∷ on_log trx (with_record place u) ls) ≡ ((l.trx == x) || stands x ls)
    by_test true rest = refl
    by_test false rest = ap (λ (b : Bool). (l.trx == x) || b) rest

log_stands : (trx : ℕ) (ls : List Log) → is_some (log_of ls trx) ≡ true → stands trx ls ≡ true
log_stands trx [] there = absurd (cc there)
log_stands trx (l ∷ ls) there = by_test (l.trx == trx) (log_stands trx ls) there
  where
    by_test : (b : Bool) → (is_some (log_of ls trx) ≡ true → stands trx ls ≡ true) → is_some (if b then Some l else log_of ls trx) ≡ true → (b || stands trx ls) ≡ true
    by_test true rest h = refl
    by_test false rest h = rest h

-- a change that is begun, where no log but the transaction's own changed
pub begins_under : (p : Plan) (old new : Store) → MayChange p old → Begins p old new → ((k x : ℕ) → is_among new k x ≡ is_among old k x) → KeepsUnder 0 old new
begins_under p old new may begins among d k below = elim (cases_eq d p.doc) [
  | inl same ↦ subst (λ q. under new q k ≡ under old q k) (sym same)
      (ap (seen (is_among new k)) begins.own ∙ seen_behind (is_among new k) (record { trx = p.trx; length = (row_before new p.doc).lob.length; bytes = content new.lobs (row_before new p.doc) }) (history old p.doc) (among k p.trx ∙ open_unseen old k p.trx (log_stands p.trx old.active may.log))
      ∙ seen-same (is_among new k) (is_among old k) (history old p.doc) (among k))
  | inr other ↦ ap (seen (is_among new k)) (begins.others d other) ∙ seen-same (is_among new k) (is_among old k) (history old d) (among k)
]

-- an event in the midst of a change or of its rollback: the newest row is of an active transaction
pub half_under : (old new : Store) (d k : ℕ) (h h' : Past) (hs hs' : List Past) → history old d ≡ h ∷ hs → history new d ≡ h' ∷ hs' → h'.trx ≡ h.trx → stands h.trx old.active ≡ true
    → ((x : ℕ) → is_among new k x ≡ is_among old k x) → KeepsOlder d old new → under new d k ≡ under old d k
half_under old new d k h h' hs hs' e e' same there among keeps =
    let unseen = open_unseen old k h.trx there in
    seen_older (is_among new k) (history new d) h' hs' e' (ap (is_among new k) same ∙ among h.trx ∙ unseen)
    ∙ ap (seen (is_among new k)) keeps
    ∙ seen-same (is_among new k) (is_among old k) (all_but_first (history old d)) among
    ∙ sym (seen_older (is_among old k) (history old d) h hs e unseen)

-- the planning events leave the logs' transactions
pub planned_among : (p : Plan) (new : Row → Row) (body : Body) (f : List Lob → List Lob) (store : Store) (k x : ℕ) → is_among (on_lobs f (planned p new body store)) k x ≡ is_among store k x
planned_among p new body f store k x = ap (λ (b : Bool). not b && not (stands_above k x store.committed)) (stands_on p.trx x p.place (record_of p (row_before store p.doc) body) store.active)
