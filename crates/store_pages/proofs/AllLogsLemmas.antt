-- All logs of a store stand on pages of their own, in their two lists.
use Rattle.std.proofs.Common.{◌≡◌, ◌≢◌, ◌⊎◌, inl, inr, ℕ, ◌+◌, ◌<◌, ◌≤◌, List, [], ◌∷◌, ◌++◌, length, refl, sym, ap, ◌∙◌, arith}
use Rattle.std.proofs.lemmas.List.{length-append}
use Rattle.page_model.specs.Pages.{Pages}
use Rattle.page_model.specs.Counts.{times}
use Rattle.page_model.proofs.CountLemmas.{times_here, few_pages}
use Rattle.store_data.specs.Store.{Store}
use Rattle.undo_model.specs.Data.{Part, Log as LogThere}
use Rattle.undo_model.specs.Logs.{IsLog}
use Rattle.undo_model.specs.LogLists.{AreLogs, pages_in, all_pages, IsNoneOf, AreDifferent}
use Rattle.store_model.specs.Steps.{log_of as log_in}
use Rattle.store_parts.specs.Stored.{part_pages}
use Rattle.store_parts.specs.Standing.{IsOut, AreThere}
use Rattle.store_parts.specs.Shows.{AreIn, IsStore}
use Rattle.store_parts.proofs.CountLemmas.{mark_small, times-joined}
use Rattle.store_parts.proofs.MoveLemmas.{marked}
use Rattle.store_parts.proofs.FrameLemmas.{times-parts}
use Rattle.store_pages.specs.Logs.{LogsAt}
use Rattle.store_pages.proofs.LogStoreLemmas.{found_log}

-- ---- each stands

-- logs of which none is taken out stand
pub all_stand : (pages : Pages) (ls : List LogThere) → AreThere pages ls → AreIn ls → AreLogs pages ls
all_stand pages [] there are = tt
all_stand pages (l ∷ ls) there are = (stands there.0, all_stand pages ls there.1 are.1)
  where
    stands : IsOut l ⊎ IsLog pages l → IsLog pages l
    stands (inl gone) = absurd (are.0 gone)
    stands (inr is) = is

-- ---- on pages of their own

none_of : (n : ℕ) (ns : List ℕ) → times n ns ≡ 0 → IsNoneOf n ns
none_of n [] none = tt
none_of n (m ∷ ms) none = (differs, none_of n ms (omega (arith, none)))
  where
    differs : n ≢ m
    differs e = absurd (no (let h = times_here m ms in let c : times n (m ∷ ms) ≡ times m (m ∷ ms) = ap (λ k. times k (m ∷ ms)) e in omega (arith, none, h, c)))
      where
        no : 1 ≤ 0 → ⊥
        no x = absurd (omega arith)

different : (ns : List ℕ) → ((n : ℕ) → times n ns ≤ 1) → AreDifferent ns
different [] once = tt
different (n ∷ ns) once =
    (none_of n ns (let h = times_here n [] in let o = once n in omega (arith, h, o)), different ns (λ m. let o = once m in omega (arith, o)))

-- ---- fewer than pages

enough_pages : (ls : List LogThere) → AreIn ls → length ls ≤ length (all_pages ls)
enough_pages [] are = omega arith
enough_pages (l ∷ ls) are =
    let r = enough_pages ls are.1 in
    let a = length-append (pages_in l.parts) (all_pages ls) in
    let b = some_page l.parts are.0 in
    omega (arith, r, a, b)
  where
    some_page : (parts : List Part) → parts ≢ [] → 1 ≤ length (pages_in parts)
    some_page [] some = absurd (some refl)
    some_page (p ∷ ps) some = omega arith

-- ---- in a store

pub logs_at : (pages : Pages) (store : Store) → IsStore pages store → LogsAt pages store
logs_at pages store is =
    let s = is.stored in
    let st = is.standing in
    let in_parts : (n : ℕ) → times n (all_pages s.active) + times n (all_pages s.committed) ≤ times n (part_pages s) = λ n. (let p = times-parts n s in omega (arith, p)) in
    let once : (n : ℕ) → times n (0 ∷ all_pages (s.active ++ s.committed)) ≤ 1 = λ n.
    (let i = in_parts n in let a = times-joined n s.active s.committed in let m = st.marks n in let k = mark_small pages n in omega (arith, i, a, m, k)) in
    let below : (n : ℕ) → 1 ≤ times n (all_pages s.committed) → n < length pages = λ n h.
    (marked pages n (let i = in_parts n in let m = st.marks n in omega (arith, i, m, h))).0 in
    let once_committed : (n : ℕ) → times n (all_pages s.committed) ≤ 1 = λ n.
    (let i = in_parts n in let m = st.marks n in let k = mark_small pages n in omega (arith, i, m, k)) in
    let room = few_pages (length pages) (all_pages s.committed) once_committed below in
    let more = enough_pages s.committed is.whole.committed_in in
    let size = st.map.size.few in
    record {
      logs = record { active = s.active; committed = s.committed; purged = s.purged };
      stands = record {
        active_list = st.active_list;
        committed_list = st.committed_list;
        active_logs = all_stand pages s.active st.active is.whole.active_in;
        committed_logs = all_stand pages s.committed st.committed is.whole.committed_in;
        active = is.whole.active;
        committed = is.whole.committed;
        once = different (0 ∷ all_pages (s.active ++ s.committed)) once;
      };
      active = is.shows.active;
      committed = is.shows.committed;
      purged = is.shows.purged;
      counted = st.system.commits ∙ sym is.shows.commits;
      few = omega (arith, room, more, size);
      found = λ trx x there.
          (let at = found_log s.active trx x (ap (λ ls. log_in ls trx) (sym is.shows.active) ∙ there) in
          record { before = at.before; log = at.log; behind = at.after; here = at.cut; shows = at.shows });
    }
