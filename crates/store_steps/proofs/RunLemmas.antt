-- Runs that are written: the pages that they touch, and the store with them laid over its LOBs.
use Rattle.std.proofs.Common.{◌≡◌, inl, inr, ℕ, zero, suc, ◌<◌, drop, get_or, map, ◌+◌, ◌*◌, ◌≤◌, ◌==◌, ◌||◌, true, cond, List, [], ◌∷◌, ◌++◌, length, Option, Some, None, refl, sym, ap, subst, ◌∙◌, lit≤, arith}
use Rattle.std.specs.Option.{option_map}
use Rattle.std.proofs.lemmas.Bool.{cases_Bool, eqb-true}
use Rattle.page_model.specs.Pages.{Pages, Write, written, all_written}
use Rattle.std.proofs.lemmas.List.{length-append}
use Rattle.page_model.specs.Spans.{Span, span}
use Rattle.page_model.specs.Steps.{PageState, IsWithin, MayUse, Uses, among, different}
use Rattle.page_model.specs.Counts.{times}
use Rattle.page_model.proofs.StepLemmas.{may_less, may_within, uses_more, uses_within, within_one, within_left, within_right, within_both, different_within}
use Rattle.page_model.proofs.CountLemmas.{times-append}
use Rattle.page_model.proofs.FrameLemmas.{written_outside}
use Rattle.store_data.specs.Store.{Lob, Run, Store}
use Rattle.store_model.specs.Lobs.{lob_of}
use Rattle.store_model.specs.Steps.{on_lobs}
use Rattle.store_model.specs.Runs.{lob_laid, lobs_laid}
use Rattle.undo_model.specs.Old.{old_size}
use Rattle.undo_model.specs.LogLists.{all_pages}
use Rattle.undo_model.specs.Rows.{RowPage}
use Rattle.lob_model.specs.Pieces.{versions}
use Rattle.lob_model.specs.Lobs.{lob_pages}
use Rattle.store_parts.specs.Stored.{row_pages, pages_of}
use Rattle.store_parts.specs.Keeps.{Keeps}
use Rattle.store_parts.proofs.CountLemmas.{mark_small}
use Rattle.store_parts.proofs.KeepLemmas.{keeps_write, keeps_then, keeps_same}
use Rattle.store_pages.specs.Runs.{LiesIn, LieIn, writes_of}
use Rattle.store_pages.proofs.UseLemmas.{nowhere}
use Rattle.store_pages.proofs.LaidLemmas.{one_laid, no_runs, runs_then, lie_laid, versions_laid}
use Rattle.store_pages.proofs.RunLobLemmas.{run_fits, lob_stands_laid, as_many, has_page}
use Rattle.store_steps.specs.Standing.{StandsOn}
use Rattle.store_steps.proofs.LobLemmas.{lob_at}
use Rattle.store_steps.specs.Runs.{run_pages, laid_room}

-- ---- the pages touched

pub different_both : (xs ys : List ℕ) → different (xs ++ ys) ≤ different xs + different ys
different_both [] ys = omega arith
different_both (x ∷ xs) ys = elim (cases_Bool (among xs x)) [
  | inl again ↦
      let wide : among (xs ++ ys) x ≡ true = within_left xs ys x again in
      let r = different_both xs ys in
      rw again (rw wide r)
  | inr once ↦ elim (cases_Bool (among (xs ++ ys) x)) [
    | inl wide ↦ let r = different_both xs ys in rw once (rw wide (omega (arith, r)))
    | inr none ↦ let r = different_both xs ys in rw once (rw none (omega (arith, r)))
  ]
]

abbrev once_each : List ℕ → List ℕ
once_each [] = []
once_each (n ∷ more) = cond (among more n) (once_each more) (n ∷ once_each more)

length_once : (ns : List ℕ) → length (once_each ns) ≡ different ns
length_once [] = refl
length_once (n ∷ more) = elim (cases_Bool (among more n)) [
  | inl again ↦ rw again (length_once more)
  | inr once ↦ let r = length_once more in rw once (omega (arith, r))
]

once_within : (ns : List ℕ) → IsWithin ns (once_each ns)
once_within [] m is = is
once_within (n ∷ more) m is = elim (cases_Bool (among more n)) [
  | inl again ↦ rw again (elim (cases_Bool (m == n)) [
    | inl same ↦ once_within more m (let e : m ≡ n = eqb-true m n same in subst (λ k. among more k ≡ true) (sym e) again)
    | inr other ↦ once_within more m (sym (ap (λ b. b || among more m) other) ∙ is)
  ])
  | inr once ↦ rw once (elim (cases_Bool (m == n)) [
    | inl same ↦ ap (λ b. b || among (once_each more) m) same
    | inr other ↦ ap (λ b. b || among (once_each more) m) other ∙ once_within more m (sym (ap (λ b. b || among more m) other) ∙ is)
  ])
]

-- named pages, of which there are few, count as others
pub may_few : (ns : List ℕ) (k bytes b : ℕ) (s : PageState) → different ns ≤ k → b ≤ bytes
    → MayUse [] k bytes s → MayUse ns 0 b s
may_few ns k bytes b s few short may = record {
  pins = (let d = different_both ns s.touched in let m = may.pins in omega (arith, d, m, few));
  room = (let m = may.room in omega (arith, m, short));
}

pub uses_few : {T : Type 0} {state : T → PageState} {stays : T → T → Type 0} (ns : List ℕ)
    (k bytes b : ℕ) (s t : T) → different ns ≤ k → b ≤ bytes → Uses state stays ns 0 b s t
    → Uses state stays [] k bytes s t
uses_few {state = state} ns k bytes b s t few short uses =
    let before = (state s).touched in
    let os = uses.touches.others in
    let all = (os ++ once_each ns) ++ ([] ++ before) in
    record {
      count = uses.count;
      touches = record {
        others = os ++ once_each ns;
        few = (let f = uses.touches.few in let e = length_once ns in
            let j = length-append os (once_each ns) in omega (arith, f, e, j, few));
        within = λ n is. within_both os (ns ++ before) all
            (λ m i. within_left (os ++ once_each ns) before m (within_left os (once_each ns) m i))
            (within_both ns before all
            (λ m i. within_left (os ++ once_each ns) before m
            (within_right os (once_each ns) m (once_within ns m i)))
            (within_right (os ++ once_each ns) before)) n (uses.touches.within n is);
      };
      room = (let r = uses.room in omega (arith, r, short));
      same = uses.same;
    }

-- and beside other named pages
pub may_few_on : (ns ms : List ℕ) (k j bytes : ℕ) (s : PageState) → different ns ≤ k
    → MayUse ms (k + j) bytes s → MayUse (ns ++ ms) j bytes s
may_few_on ns ms k j bytes s few may =
    let t = s.touched in
    let all = ns ++ (ms ++ t) in
    let d = different_both ns (ms ++ t) in
    let w = different_within ((ns ++ ms) ++ t) all (within_both (ns ++ ms) t all
    (within_both ns ms all (within_left ns (ms ++ t))
    (λ m i. within_right ns (ms ++ t) m (within_left ms t m i)))
    (λ m i. within_right ns (ms ++ t) m (within_right ms t m i))) in
    record {
      pins = (let m = may.pins in omega (arith, d, w, m, few));
      room = may.room;
    }

pub uses_few_on : {T : Type 0} {state : T → PageState} {stays : T → T → Type 0} (ns ms : List ℕ)
    (k j bytes : ℕ) (s t : T) → different ns ≤ k → Uses state stays (ns ++ ms) j bytes s t
    → Uses state stays ms (k + j) bytes s t
uses_few_on {state = state} ns ms k j bytes s t few uses =
    let before = (state s).touched in
    let os = uses.touches.others in
    let all = (os ++ once_each ns) ++ (ms ++ before) in
    record {
      count = uses.count;
      touches = record {
        others = os ++ once_each ns;
        few = (let f = uses.touches.few in let e = length_once ns in
            let j = length-append os (once_each ns) in omega (arith, f, e, j, few));
        within = λ n is. within_both os ((ns ++ ms) ++ before) all
            (λ m i. within_left (os ++ once_each ns) (ms ++ before) m (within_left os (once_each ns) m i))
            (within_both (ns ++ ms) before all
            (within_both ns ms all
            (λ m i. within_left (os ++ once_each ns) (ms ++ before) m
            (within_right os (once_each ns) m (once_within ns m i)))
            (λ m i. within_right (os ++ once_each ns) (ms ++ before) m (within_left ms before m i)))
            (λ m i. within_right (os ++ once_each ns) (ms ++ before) m (within_right ms before m i)))
            n (uses.touches.within n is);
      };
      room = uses.room;
      same = uses.same;
    }

pub few_bytes : (rs : List Run) → length rs ≤ 100 → old_size rs ≤ 100 → laid_room rs ≤ 900
few_bytes rs many small = let e = room_is rs in omega (arith, e, many, small)
  where
    room_is : (rs : List Run) → laid_room rs ≡ old_size rs + 8 * length rs
    room_is [] = refl
    room_is (r ∷ rs) = let e = room_is rs in omega (arith, e)

-- ---- one after another

pub lays_then : (o0 o1 o2 : Option Pages) (w : Write) (ws : List Write)
    → o1 ≡ option_map (λ pages. written pages w.page w.at w.bytes) o0
    → o2 ≡ option_map (all_written ws) o1 → o2 ≡ option_map (all_written (w ∷ ws)) o0
lays_then None o1 o2 w ws one two = two ∙ ap (option_map (all_written ws)) one
lays_then (Some pages) o1 o2 w ws one two = two ∙ ap (option_map (all_written ws)) one

-- ---- in a store

pub once : (there : List RowPage) (old : Pages) (store : Store) (n : ℕ) → StandsOn there old store
    → times n (pages_of store.lobs) ≤ 1
once there old store n on =
    let is = on.is in
    let s = is.stored in
    let few = mark_small old n in
    let marked = is.standing.marks n in
    let first = times-append n (row_pages s.rows)
    (all_pages s.active ++ (all_pages s.committed ++ pages_of s.lobs)) in
    let second = times-append n (all_pages s.active) (all_pages s.committed ++ pages_of s.lobs) in
    let third = times-append n (all_pages s.committed) (pages_of s.lobs) in
    subst (λ (ls : List Lob). times n (pages_of ls) ≤ 1) (sym is.shows.lobs)
    (omega (arith, few, marked, first, second, third))

run_laid : (there : List RowPage) (old : Pages) (store : Store) (page : ℕ) (l : Lob) (r : Run)
    → StandsOn there old store → lob_of store.lobs page ≡ Some l → LiesIn r (versions l.pieces)
    → StandsOn there (written old r.page r.at r.bytes) (on_lobs (lobs_laid (r ∷ [])) store)
    × (lob_of (lobs_laid (r ∷ []) store.lobs) page ≡ Some (lob_laid (r ∷ []) l))
run_laid there old store page l r on found lies =
    let new = written old r.page r.at r.bytes in
    let f : Lob → Lob = lob_laid (r ∷ []) in
    let at = lob_at there old store page l on found in
    let stands = at.stands in
    let s : List Span = span r.page r.at (length r.bytes) ∷ [] in
    let same = written_outside old r.page r.at r.bytes (run_fits old l r stands lies) in
    let own = lob_pages l in
    let keeps : Keeps [] (lob_pages l) (lob_pages (f l)) old new =
    keeps_then [] own own (lob_pages (f l)) old new new
    (keeps_write [] own s old new (nowhere own) tt same (has_page old l r stands lies, tt))
    (keeps_same [] own (lob_pages (f l)) new (as_many old l r stands lies)) in
    let changed = at.changed new f (lob_stands_laid old l r stands lies) keeps in
    let one = one_laid r store.lobs page l found (has_page old l r stands lies) (once there old store r.page on) in
    (subst (λ (ls : List Lob). StandsOn there new (on_lobs (λ _. ls) store)) (sym one.0) changed, one.1)

pub runs_laid : (there : List RowPage) (old : Pages) (store : Store) (page : ℕ) (l : Lob)
    (rs : List Run) → StandsOn there old store → lob_of store.lobs page ≡ Some l
    → LieIn rs (versions l.pieces)
    → StandsOn there (all_written (writes_of rs) old) (on_lobs (lobs_laid rs) store)
runs_laid there old store page l [] on found lie =
    subst (λ (ls : List Lob). StandsOn there old (on_lobs (λ _. ls) store)) (sym (no_runs store.lobs)) on
runs_laid there old store page l (r ∷ rs) on found lie =
    let one = run_laid there old store page l r on found lie.0 in
    let store' = on_lobs (lobs_laid (r ∷ [])) store in
    let l' = lob_laid (r ∷ []) l in
    let lie' = subst (λ vs. LieIn rs vs) (sym (versions_laid (r ∷ []) l.pieces))
    (lie_laid rs (r ∷ []) (versions l.pieces) lie.1) in
    let rest = runs_laid there (written old r.page r.at r.bytes) store' page l' rs one.0 one.1 lie' in
    subst (λ (ls : List Lob). StandsOn there (all_written (writes_of rs)
    (written old r.page r.at r.bytes)) (on_lobs (λ _. ls) store)) (runs_then r rs store.lobs) rest

pub length_runs : {A B : Type 0} (f : A → B) (xs : List A) → length (map f xs) ≡ length xs
length_runs f [] = refl
length_runs f (x ∷ xs) = ap suc (length_runs f xs)

-- ---- what a run's write may use, and what it used

pub may_first : (r : Run) (rs : List Run) (s : PageState)
    → MayUse (run_pages (r ∷ rs)) 0 (laid_room (r ∷ rs)) s → MayUse (r.page ∷ []) 0 (length r.bytes + 8) s
may_first r rs s may =
    may_less (run_pages (r ∷ rs)) (r.page ∷ []) 0 0 (laid_room (r ∷ rs)) (length r.bytes + 8) s may
    (within_one r.page (run_pages rs)) (lit≤ tt) (omega arith)

pub may_rest : {T : Type 0} {state : T → PageState} {stays : T → T → Type 0} (r : Run) (rs : List Run)
    (s t : T) → MayUse (run_pages (r ∷ rs)) 0 (laid_room (r ∷ rs)) (state s)
    → Uses state stays (r.page ∷ []) 0 (length r.bytes + 8) s t
    → MayUse (run_pages rs) 0 (laid_room rs) (state t)
may_rest r rs s t may uses =
    may_within (run_pages (r ∷ rs)) (run_pages rs) 0 (laid_room (r ∷ rs)) 0 (length r.bytes + 8) 0 (laid_room rs) s t
    (within_right (r.page ∷ []) (run_pages rs)) (lit≤ tt) (omega arith) may
    (uses_more (r.page ∷ []) (run_pages (r ∷ rs)) 0 0 (length r.bytes + 8) (length r.bytes + 8) s t uses
    (within_one r.page (run_pages rs)) (lit≤ tt) (omega arith))

pub uses_first : {T : Type 0} {state : T → PageState} {stays : T → T → Type 0} (r : Run) (rs : List Run)
    (s t : T) → Uses state stays (r.page ∷ []) 0 (length r.bytes + 8) s t
    → Uses state stays (run_pages (r ∷ rs)) 0 (laid_room (r ∷ rs)) s t
uses_first r rs s t uses =
    uses_more (r.page ∷ []) (run_pages (r ∷ rs)) 0 0 (length r.bytes + 8) (laid_room (r ∷ rs)) s t uses
    (within_one r.page (run_pages rs)) (lit≤ tt) (omega arith)

pub uses_both : {T : Type 0} {state : T → PageState} {stays : T → T → Type 0}
    (add : (a b c : T) → stays a b → stays b c → stays a c) (r : Run) (rs : List Run)
    (s t u : T) → Uses state stays (r.page ∷ []) 0 (length r.bytes + 8) s t
    → Uses state stays (run_pages rs) 0 (laid_room rs) t u
    → Uses state stays (run_pages (r ∷ rs)) 0 (laid_room (r ∷ rs)) s u
uses_both add r rs s t u first rest =
    uses_within add (run_pages (r ∷ rs)) (run_pages rs) 0 (length r.bytes + 8) 0 (laid_room rs) s t u
    (within_right (r.page ∷ []) (run_pages rs))
    (uses_more (r.page ∷ []) (run_pages (r ∷ rs)) 0 0 (length r.bytes + 8) (length r.bytes + 8) s t first
    (within_one r.page (run_pages rs)) (lit≤ tt) (omega arith)) rest

-- the item there and those behind it
drop_at : {A : Type 0} (i : ℕ) (xs : List A) (x : A) → i < length xs → x ≡ get_or xs i x
    → drop i xs ≡ x ∷ drop (suc i) xs
drop_at {A = A} i [] x low is = absurd (omega (arith, low))
drop_at {A = A} zero (y ∷ ys) x low is = ap (λ (z : A). z ∷ ys) (sym is)
drop_at {A = A} (suc i) (y ∷ ys) x low is = drop_at i ys x (omega (arith, low)) is

pub drop_item : {A : Type 0} (i : ℕ) (xs : List A) (x : A) → i < length xs → x ≡ get_or xs i x
    → drop i xs ≡ x ∷ drop (i + 1) xs
drop_item {A = A} i xs x low is =
    let e : suc i ≡ i + 1 = omega arith in
    subst (λ (n : ℕ). drop i xs ≡ x ∷ drop n xs) e (drop_at i xs x low is)

pub drop_all : {A : Type 0} (i : ℕ) (xs : List A) → length xs ≤ i → drop i xs ≡ []
drop_all zero [] low = refl
drop_all (suc i) [] low = refl
drop_all zero (x ∷ xs) low = absurd (omega (arith, low))
drop_all (suc i) (x ∷ xs) low = drop_all i xs (omega (arith, low))
