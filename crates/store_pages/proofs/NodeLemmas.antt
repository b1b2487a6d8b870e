-- The nodes of logs in their first pages.
use Rattle.std.proofs.Common.{◌≡◌, inl, inr, ℕ, ◌+◌, ◌≤◌, List, [], ◌∷◌, ◌++◌, map, sym, ap, arith, lit≤}
use Rattle.page_model.specs.Pages.{Pages}
use Rattle.page_model.specs.Spans.{Span, IsApartFromAll, AreApart}
use Rattle.page_model.specs.Lists.{node_span}
use Rattle.page_model.specs.Counts.{times}
use Rattle.undo_model.specs.Data.{Part, Log}
use Rattle.undo_model.specs.Logs.{log_node, AreParts, part_spans}
use Rattle.undo_model.specs.LogLists.{pages_in, all_pages, log_nodes}
use Rattle.page_model.proofs.CountLemmas.{times-append, times_here}
use Rattle.store_parts.specs.Stored.{out}
use Rattle.store_parts.specs.Standing.{AreThere, AreOn, AreOffNodes, AreOutIn}
use Rattle.store_parts.specs.Shows.{AreIn}
use Rattle.store_parts.proofs.CountLemmas.{on_wider, first_on}

-- the nodes of logs lie in pages of these, or in own ones where a log is taken out
pub on_nodes : (own : List ℕ) (pages : Pages) (ls : List Log) → AreThere pages ls → AreOutIn own ls → AreOn (all_pages ls ++ own) (map node_span (log_nodes ls))
on_nodes own pages [] are outs = tt
on_nodes own pages (l ∷ more) are outs =
    let a : (n : ℕ) → times n ((pages_in l.parts ++ all_pages more) ++ own) ≡ times n (pages_in l.parts) + times n (all_pages more) + times n own = λ n.
    let x = times-append n (pages_in l.parts ++ all_pages more) own in let y = times-append n (pages_in l.parts) (all_pages more) in omega (arith, x, y) in (
      elim are.0 [
        | inl is_out ↦ (let o = outs.0 is_out in let b = a l.page in omega (arith, o, b))
        | inr log ↦ (let f = first_on pages l.page l.parts log.parts in let b = a l.page in omega (arith, f, b))
      ],
      on_wider (all_pages more ++ own) ((pages_in l.parts ++ all_pages more) ++ own) (map node_span (log_nodes more))
          (λ n. let b = a n in let c = times-append n (all_pages more) own in omega (arith, b, c)) (on_nodes own pages more are.1 outs.1),
    )

-- a log's own bytes leave out its node
pub node_off_parts : (pages : Pages) (first : ℕ) (parts : List Part) → AreParts pages first parts → ((n : ℕ) → times n (pages_in parts) ≤ 1)
    → AreApart (node_span (log_node first) ∷ []) (part_spans parts)
node_off_parts pages first [] are once = tt
node_off_parts pages first (p ∷ []) are once = ((inr (inl (lit≤ tt)), tt), ((inr (inr (lit≤ tt)), tt), tt))
node_off_parts pages first (p ∷ q ∷ older) are once = (
  (
    inl (λ (e : p.page ≡ first). absurd (no (let o = once p.page in let h = times_here p.page [] in let f = first_on pages first (q ∷ older) are.1 in
        let c : times first (pages_in (q ∷ older)) ≡ times p.page (pages_in (q ∷ older)) = ap (λ n. times n (pages_in (q ∷ older))) (sym e) in omega (arith, o, h, f, c)))),
    tt,
  ),
  node_off_parts pages first (q ∷ older) are.1 (λ n. let o = once n in omega (arith, o)),
)
  where
    no : 1 ≤ 0 → ⊥
    no h = absurd (omega arith)

-- spans apart from a base, from the nodes of other logs and from one log's are apart from them all
pub nodes_from : (b : Span) (us : List Log) (l : Log) (ws : List Log) (ts : List Span) → AreApart (node_span (log_node l.page) ∷ []) ts → AreApart (b ∷ map node_span (log_nodes (us ++ ws))) ts
    → AreApart (b ∷ map node_span (log_nodes (us ++ l ∷ ws))) ts
nodes_from b us l ws [] mine others = tt
nodes_from b us l ws (t ∷ ts) mine others = ((others.0.0, one us others.0.1), nodes_from b us l ws ts mine.1 others.1)
  where
    one : (vs : List Log) → IsApartFromAll (map node_span (log_nodes (vs ++ ws))) t → IsApartFromAll (map node_span (log_nodes (vs ++ l ∷ ws))) t
    one [] apart = (mine.0.0, apart)
    one (v ∷ vs) apart = (apart.0, one vs apart.1)

-- logs that stand in pages stand there without one of them in the list
pub there_cut : (pages : Pages) (us : List Log) (l : Log) (ws : List Log) → AreThere pages (us ++ l ∷ ws) → AreThere pages (us ++ ws)
there_cut pages [] l ws are = are.1
there_cut pages (u ∷ us) l ws are = (are.0, there_cut pages us l ws are.1)

-- where no log is taken out, or one
pub off_none : (xs : List Span) (ls : List Log) → AreIn ls → AreOffNodes xs ls
off_none xs [] all = tt
off_none xs (l ∷ more) all = ((λ is_out. absurd (all.0 is_out)), off_none xs more all.1)

pub off_one : (xs : List Span) (us : List Log) (l : Log) (ws : List Log) → AreIn (us ++ l ∷ ws) → IsApartFromAll xs (node_span (log_node l.page)) → AreOffNodes xs (us ++ out l ∷ ws)
off_one xs [] l ws all apart = ((λ is_out. apart), off_none xs ws all.1)
off_one xs (u ∷ us) l ws all apart = ((λ is_out. absurd (all.0 is_out)), off_one xs us l ws all.1 apart)
