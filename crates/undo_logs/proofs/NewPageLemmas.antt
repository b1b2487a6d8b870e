-- A record's place on a page that was added.
use Rattle.std.proofs.Common.{◌≡◌, ◌≢◌, ◌⊎◌, inl, inr, ℕ, ◌+◌, ◌≤◌, Bool, cond, List, [], ◌∷◌, ◌++◌, map, refl, sym, ap, ◌∙◌, arith, lit≤}
use Rattle.std.proofs.lemmas.Bool.{ne_eqb}
use Rattle.page_model.specs.Pages.{Pages, Address}
use Rattle.page_model.specs.Spans.{span, SameOutside, IsApartFromAll, AreApart}
use Rattle.page_model.specs.Lists.{node_span}
use Rattle.page_model.proofs.FrameLemmas.{field_kept, address_kept}
use Rattle.page_space.specs.Map.{IsUsed}
use Rattle.undo_model.specs.Data.{Entry, Part, Log}
use Rattle.undo_model.specs.Logs.{node_of, nodes_in, AreParts, IsNewPage, body_spans, other_start, owner_field}
use Rattle.undo_model.specs.LogSteps.{put_part}
use Rattle.undo_model.proofs.LogLemmas.{parts_kept, chains_kept, commit_is, next_is}
use Rattle.store_parts.specs.Appends.{OpensPage, AreUsed, open_spans}
use Rattle.undo_logs.specs.Puts.{Role}
use Rattle.store_parts.specs.Appends.{CanAppend}
use Rattle.undo_logs.specs.Places.{IsPlaced}
use Rattle.undo_logs.proofs.OpenLemmas.{free_other}
use Rattle.undo_logs.proofs.AppendLemmas.{apart_if, not_first}
use Rattle.undo_logs.proofs.PlaceLemmas.{used_last}

-- nodes of pages stand at 38
abbrev pub AtNode : List Address → Type 0
AtNode [] = Unit {0}
AtNode (a ∷ more) = (a.at ≡ 38) × AtNode more

at_added : (nodes : List Address) (page : ℕ) → AtNode nodes → AtNode (nodes ++ node_of page ∷ [])
at_added [] page at = (refl, tt)
at_added (a ∷ more) page at = (at.0, at_added more page at.1)

-- each node in a log's list of pages is at byte 38 of its page
pub at_nodes : (parts : List Part) → AtNode (nodes_in parts)
at_nodes [] = tt
at_nodes (p ∷ older) = at_added (nodes_in older) p.page (at_nodes older)

beside_nodes : (q at size : ℕ) (nodes : List Address) → AtNode nodes → (at + size ≤ 38) ⊎ (50 ≤ at) → IsApartFromAll (map node_span nodes) (span q at size)
beside_nodes q at size [] nodes side = tt
beside_nodes q at size (a ∷ more) nodes (inl before) = let e = nodes.0 in (apart_if a.page q a.at 12 at size (λ same. inl (omega (arith, e, before))), beside_nodes q at size more nodes.1 (inl before))
beside_nodes q at size (a ∷ more) nodes (inr behind) = let e = nodes.0 in (apart_if a.page q a.at 12 at size (λ same. inr (omega (arith, e, behind))), beside_nodes q at size more nodes.1 (inr behind))

-- bytes of a page that is neither page 0 nor the new one, beside the nodes and the base
pub far_from_open : (log page q at size : ℕ) (nodes : List Address) → AtNode nodes → q ≢ 0 → q ≢ page → (at + size ≤ 38) ⊎ (50 ≤ at) → (q ≡ log → (at + size ≤ 79) ⊎ (95 ≤ at)) → IsApartFromAll (open_spans log nodes page) (span q at size)
far_from_open log page q at size nodes at_node zero other side base =
    (inl zero, (inl zero, (inl other, (apart_if log q 79 16 at size base, beside_nodes q at size (nodes ++ node_of page ∷ []) (at_added nodes page at_node) side))))

-- each part's page is used, and isn't page 0
abbrev pub PartsUsed : Pages → List Part → Type 0
PartsUsed pages [] = Unit {0}
PartsUsed pages (p ∷ older) = (p.page ≢ 0) × IsUsed pages p.page × PartsUsed pages older

-- where the nodes' pages are used and none is page 0, so it is with the parts' pages
pub parts_used : (pages : Pages) (parts : List Part) → AreUsed pages (nodes_in parts) → PartsUsed pages parts
parts_used pages [] used = tt
parts_used pages (p ∷ older) used = let last = used_last pages (nodes_in older) (node_of p.page) used in (last.1, last.2, parts_used pages older last.0)

new_page : (old : Pages) (page : ℕ) (parts : List Part) → ((q : ℕ) → IsUsed old q → page ≢ q) → PartsUsed old parts → IsNewPage page parts
new_page old page [] other used = tt
new_page old page (p ∷ older) other used = (other p.page used.1, new_page old page older other used.2)

-- the pages of parts, none of which is the one that is added or dropped
pub bodies_far : (old pages : Pages) (log page : ℕ) (nodes : List Address) (parts : List Part) → AtNode nodes → IsNewPage page parts → PartsUsed old parts → AreParts pages log parts → AreApart (open_spans log nodes page) (body_spans parts)
bodies_far old pages log page nodes [] at_node new used are = tt
bodies_far old pages log page nodes (p ∷ []) at_node new used are =
    let far : p.page ≢ page = λ e. new.0 (sym e) in (
      far_from_open log page p.page 24 2 nodes at_node used.0 far (inl (lit≤ tt)) (λ e. inl (lit≤ tt)),
      (
        far_from_open log page p.page 50 2 nodes at_node used.0 far (inr (lit≤ tt)) (λ e. inl (lit≤ tt)),
        (far_from_open log page p.page 107 16_277 nodes at_node used.0 far (inr (lit≤ tt)) (λ e. inr (lit≤ tt)), tt),
      ),
    )
bodies_far old pages log page nodes (p ∷ q ∷ older) at_node new used are =
    let far : p.page ≢ page = λ e. new.0 (sym e) in
    let behind : p.page ≢ log = not_first pages log p.page (q ∷ older) are.1 are.0.new in (
      far_from_open log page p.page 24 2 nodes at_node used.0 far (inl (lit≤ tt)) (λ e. inl (lit≤ tt)),
      (
        far_from_open log page p.page 50 16_334 nodes at_node used.0 far (inr (lit≤ tt)) (λ e. absurd (behind e)),
        bodies_far old pages log page nodes (q ∷ older) at_node new.1 used.2 are.1,
      ),
    )

role_new : (mid : Pages) (log page : ℕ) (parts : List Part) → AreParts mid log parts → IsNewPage page parts → owner_field mid page ≡ log → Role mid log other_start (record { page = page; records = [] }) parts
role_new mid log page [] are new owner = absurd are
role_new mid log page (q ∷ older) are new owner = (refl, owner, new, are)

put_new : (e : Entry) (page : ℕ) (parts : List Part) → IsNewPage page parts → e.at.page ≡ page → put_part e parts ≡ record { page = page; records = e ∷ [] } ∷ parts
put_new e page [] new at = ap (λ (n : ℕ). (let q : Part = record { page = n; records = e ∷ [] } in q) ∷ []) at
put_new e page (p ∷ older) new at =
    let other : p.page ≢ e.at.page = λ same. new.0 (sym at ∙ sym same) in
    let on : Part = record { page = p.page; records = e ∷ p.records } in
    let alone : ℕ → Part = λ n. record { page = n; records = e ∷ [] } in
    ap (λ (b : Bool). cond b (on ∷ older) (alone e.at.page ∷ p ∷ older)) (ne_eqb p.page e.at.page other) ∙ ap (λ (n : ℕ). alone n ∷ p ∷ older) at

-- a record of at most 852 bytes is placed at the start of a page that was opened for it
pub placed_new : (pages mid : Pages) (l : Log) (size page : ℕ) → CanAppend l pages → OpensPage l.page (nodes_in l.parts) page pages mid → size ≤ 852 → IsPlaced l size (record { page = page; at = 56 }) pages mid
placed_new pages mid l size page can opens small =
    let log = can.stands in
    let nodes = nodes_in l.parts in
    let xs = open_spans l.page nodes page in
    let same : SameOutside xs pages mid = opens.outside in
    let other : (q : ℕ) → IsUsed pages q → page ≢ q = λ q used. free_other pages page q opens.free used in
    let used = parts_used pages l.parts can.room.used in
    let fresh = new_page pages page l.parts other used in
    let far = bodies_far pages pages l.page page nodes l.parts (at_nodes l.parts) fresh used log.parts in
    let first = λ (at size : ℕ) (low : 50 ≤ at) (side : (at + size ≤ 79) ⊎ (95 ≤ at)).
    (let b : IsApartFromAll xs (span l.page at size) = far_from_open l.page page l.page at size nodes (at_nodes l.parts) can.room.log_other (λ e. other l.page can.room.log_used (sym e)) (inr low) (λ e. side) in b) in
    record {
      start = other_start;
      part = record { page = page; records = [] };
      older = l.parts;
      ready = record {
        active = can.active;
        state = field_kept xs pages mid l.page 52 1 same (first 52 1 (lit≤ tt) (inl (lit≤ tt))) ∙ log.state;
        trx = field_kept xs pages mid l.page 53 6 same (first 53 6 (lit≤ tt) (inl (lit≤ tt))) ∙ log.trx;
        commit = commit_is l.state _ _ l.commit (field_kept xs pages mid l.page 59 8 same (first 59 8 (lit≤ tt) (inl (lit≤ tt)))) log.commit;
        next = next_is l.state _ _ l.next (address_kept xs pages mid l.page 101 same (first 101 6 (lit≤ tt) (inr (lit≤ tt)))) log.next;
        list = opens.list;
        part = record {
          there = omega (arith, opens.there, same.many);
          type = opens.type;
          filled = opens.end;
          low = omega (arith, opens.end);
          high = omega (arith, opens.end);
        };
        role = role_new mid l.page page l.parts (parts_kept xs pages mid l.page l.parts same far log.parts) fresh opens.owner;
        chain = chains_kept xs pages mid l.page l.parts same far log.parts log.chain;
      };
      place = ap (λ (n : ℕ). let a : Address = record { page = page; at = n } in a) (sym opens.end);
      fits = omega (arith, small);
      other = free_other pages page 0 opens.free can.room.system;
      same = refl;
      puts = λ e at. put_new e page l.parts fresh (ap (λ (a : Address). a.page) at);
      opens = inr opens;
    }
