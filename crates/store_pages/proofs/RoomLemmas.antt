-- A log of a store has room for a page more.
use Rattle.std.proofs.Common.{◌≡◌, ◌≢◌, ℕ, ◌≤◌, List, [], ◌∷◌, ◌++◌, length, refl, ap, arith}
use Rattle.std.proofs.lemmas.List.{length-append}
use Rattle.page_model.specs.Pages.{Pages, Address}
use Rattle.page_model.specs.Counts.{times}
use Rattle.page_space.specs.Map.{IsUsed}
use Rattle.store_data.specs.Store.{active}
use Rattle.undo_model.specs.Data.{Part, Log}
use Rattle.undo_model.specs.Logs.{IsLog, node_of, nodes_in}
use Rattle.undo_model.specs.LogLists.{pages_in}
use Rattle.store_parts.specs.Appends.{AreUsed, CanAppend}
use Rattle.store_parts.specs.Stored.{Stored, part_pages}
use Rattle.store_parts.specs.Standing.{mark, IsStoreBut}
use Rattle.store_parts.proofs.CountLemmas.{mark_small, first_on}
use Rattle.page_model.proofs.CountLemmas.{times_here, few_pages}
use Rattle.store_parts.proofs.MoveLemmas.{marked}

-- ---- a log

length_nodes : (parts : List Part) → length (nodes_in parts) ≡ length (pages_in parts)
length_nodes [] = refl
length_nodes (p ∷ older) = let a = length-append (nodes_in older) (node_of p.page ∷ []) in let r = length_nodes older in omega (arith, a, r)

used_nodes : (pages : Pages) (parts : List Part) → ((n : ℕ) → 1 ≤ times n (pages_in parts) → (n ≢ 0) × IsUsed pages n) → AreUsed pages (nodes_in parts)
used_nodes pages [] used = tt
used_nodes pages (p ∷ older) used = join (nodes_in older) (used_nodes pages older (λ n h. used n (omega (arith, h))))
  where
    join : (xs : List Address) → AreUsed pages xs → AreUsed pages (xs ++ node_of p.page ∷ [])
    join [] are = let u = used p.page (times_here p.page (pages_in older)) in (u.0, u.1, tt)
    join (x ∷ xs) are = (are.0, are.1, join xs are.2)

-- a record can be appended to an active log that stands in a store
pub can_append : (pages : Pages) (s : Stored) (l : Log) → IsStoreBut [] pages s → IsLog pages l → l.state ≡ active → ((n : ℕ) → times n (pages_in l.parts) ≤ times n (part_pages s)) → CanAppend l pages
can_append pages s l st log is_active within =
    let of_mark : (n : ℕ) → 1 ≤ times n (pages_in l.parts) → 1 ≤ mark pages n = λ n h. (let m = st.marks n in let w = within n in omega (arith, m, w, h)) in
    let zero_used : IsUsed pages 0 = (marked pages 0 (let m = st.marks 0 in let h = times_here 0 [] in omega (arith, m, h))).1 in
    let once : (n : ℕ) → times n (pages_in l.parts) ≤ 1 = λ n. (let m = st.marks n in let w = within n in let k = mark_small pages n in omega (arith, m, w, k)) in
    let few = few_pages (length pages) (pages_in l.parts) once (λ n h. (marked pages n (of_mark n h)).0) in
    let first = first_on pages l.page l.parts log.parts in
    record {
      stands = log;
      active = is_active;
      room = record {
        list = log.list;
        map = st.map;
        used = used_nodes pages l.parts (λ n h. (not_zero n h, (marked pages n (of_mark n h)).1));
        system = zero_used;
        few = (let e = length_nodes l.parts in let m = st.map.size.few in omega (arith, few, e, m));
        log_used = (marked pages l.page (of_mark l.page first)).1;
        log_other = not_zero l.page first;
      };
    }
  where
    none : times 0 (pages_in l.parts) ≡ 0
    none = let m = st.marks 0 in let w = within 0 in let k = mark_small pages 0 in let h = times_here 0 [] in omega (arith, m, w, k, h)

    not_zero : (n : ℕ) → 1 ≤ times n (pages_in l.parts) → n ≢ 0
    not_zero n some e = absurd (no (let c : times n (pages_in l.parts) ≡ times 0 (pages_in l.parts) = ap (λ k. times k (pages_in l.parts)) e in omega (arith, none, c, some)))
      where
        no : 1 ≤ 0 → ⊥
        no x = absurd (omega arith)
