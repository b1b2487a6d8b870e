use Rattle.std.proofs.Common.{ℕ, [], ◌∷◌, ◌++◌, length, map, refl, sym, subst, ◌∙◌}
use Rattle.page_model.specs.Lists.{IsList, list_spans, node_span}
use Rattle.page_model.specs.Spans.{IsApartFromAll}
use Rattle.page_model.proofs.StepLemmas.{told_step, uses_bound}
use Rattle.engine_base.specs.Addresses.{address_of}
use Rattle.file_lists.specs.Changes.{ChangesList}
use Rattle.file_lists.specs.Near.{near_back}
use Rattle.file_lists.proofs.LinkLemmas.{handed_on}
use Rattle.file_lists.proofs.NearLemmas.{may_back, back_few}
use Rattle.lob_model.specs.Pieces.{head_place}
use Rattle.lob_model.specs.Places.{heads_base}
use Rattle.lob_model.proofs.RefillLemmas.{loose_changed}
use Rattle.lob_pages.specs.Entries.{SetsEntry}
use Rattle.lob_index.specs.Taking.{node_taken}
use Rattle.lob_bytes.specs.Growth.{WritesData, IsNewEntry, data_place}
use Rattle.lob_bytes.proofs.StepLemmas.{node_may, data_may, entry_may, list_may, node_uses, data_uses, entry_uses, list_uses}
use Rattle.lob_index.proofs.HonestLemmas.{honest_on}
use Rattle.lob_bytes.proofs.AddingLemmas.{adding_taking, adding_node, adding_list}
use Rattle.lob_bytes.proofs.SeenLemmas.{can_take, seen_of}
use Rattle.lob_bytes.proofs.BuildingLemmas.{few_heads, heads_elsewhere}
use Rattle.lob_bytes.proofs.GrowthLemmas.{added}
use Rattle.lob_bytes.proofs.growth.add_piece.Goals as goal

pub take_node-requires-clause-may : goal.take_node-requires-clause-may
take_node-requires-clause-may g c = let t = c.take_data_page.new.p in node_may g.P.Pages.stays_on c.args.page.0 0 0 c.args.p.now t t t t t c.requires.may c.take_data_page.ensures.uses

pub returns-in_err-node-clause-uses : goal.returns-in_err-node-clause-uses
returns-in_err-node-clause-uses g c = let t = c.take_node.new.p in node_uses g.P.Pages.stays_on c.args.page.0 0 0 c.args.p.now c.take_data_page.new.p t t t t c.take_data_page.ensures.uses c.take_node.ensures.uses

pub write_bytes-requires-clause-may : goal.write_bytes-requires-clause-may
write_bytes-requires-clause-may g c =
    let t = c.take_node.new.p in
    data_may g.P.Pages.stays_on c.args.page.0 (data_place c.args.page.0 c.in_ok-taken.taken) c.in_ok-node.node.page.0 c.args.p.now c.take_data_page.new.p t t t t c.requires.may c.take_data_page.ensures.uses c.in_ok-node.ensures.named

pub returns-in_err-write_bytes-clause-uses : goal.returns-in_err-write_bytes-clause-uses
returns-in_err-write_bytes-clause-uses g c =
    let t = c.write_bytes.new.p in
    data_uses g.P.Pages.stays_on c.args.page.0 (data_place c.args.page.0 c.in_ok-taken.taken) c.in_ok-node.node.page.0 c.args.p.now c.take_data_page.new.p c.take_node.new.p t t t c.take_data_page.ensures.uses c.in_ok-node.ensures.named c.write_bytes.ensures.uses

pub write_entry-requires-clause-may : goal.write_entry-requires-clause-may
write_entry-requires-clause-may g c =
    let t = c.write_bytes.new.p in
    entry_may g.P.Pages.stays_on c.args.page.0 (data_place c.args.page.0 c.in_ok-taken.taken) c.in_ok-node.node.page.0 c.args.p.now c.take_data_page.new.p c.take_node.new.p t t t c.requires.may c.take_data_page.ensures.uses c.in_ok-node.ensures.named c.write_bytes.ensures.uses

pub returns-in_err-write_entry-clause-uses : goal.returns-in_err-write_entry-clause-uses
returns-in_err-write_entry-clause-uses g c =
    let t = c.write_entry.new.p in
    entry_uses g.P.Pages.stays_on c.args.page.0 (data_place c.args.page.0 c.in_ok-taken.taken) c.in_ok-node.node.page.0 c.args.p.now c.take_data_page.new.p c.take_node.new.p c.write_bytes.new.p t t c.take_data_page.ensures.uses c.in_ok-node.ensures.named c.write_bytes.ensures.uses c.write_entry.ensures.uses

pub add_last-requires-clause-may : goal.add_last-requires-clause-may
add_last-requires-clause-may g c =
    let t = c.write_entry.new.p in
    may_back (g.P.Pages.state t) (heads_base c.args.page.0) _ 68
    (list_may g.P.Pages.stays_on c.args.page.0 (data_place c.args.page.0 c.in_ok-taken.taken) c.in_ok-node.node.page.0 c.args.p.now c.take_data_page.new.p c.take_node.new.p c.write_bytes.new.p t t c.requires.may c.take_data_page.ensures.uses c.in_ok-node.ensures.named c.write_bytes.ensures.uses c.write_entry.ensures.uses)

pub returns-in_err-add_last-clause-uses : goal.returns-in_err-add_last-clause-uses
returns-in_err-add_last-clause-uses g c =
    let t = c.write_entry.new.p in
    let s = g.P.Pages.state t in
    let base = heads_base c.args.page.0 in
    list_uses g.P.Pages.stays_on c.args.page.0 (data_place c.args.page.0 c.in_ok-taken.taken) c.in_ok-node.node.page.0 c.args.p.now c.take_data_page.new.p c.take_node.new.p c.write_bytes.new.p t c.add_last.new.p c.take_data_page.ensures.uses c.in_ok-node.ensures.named c.write_bytes.ensures.uses c.write_entry.ensures.uses
    (uses_bound (near_back s base) _ 1 68 _ _ (back_few s base) c.add_last.ensures.uses)

pub returns-clause-uses : goal.returns-clause-uses
returns-clause-uses g c =
    let t = c.write_entry.new.p in
    let s = g.P.Pages.state t in
    let base = heads_base c.args.page.0 in
    list_uses g.P.Pages.stays_on c.args.page.0 (data_place c.args.page.0 c.in_ok-taken.taken) c.in_ok-node.node.page.0 c.args.p.now c.take_data_page.new.p c.take_node.new.p c.write_bytes.new.p t c.add_last.new.p c.take_data_page.ensures.uses c.in_ok-node.ensures.named c.write_bytes.ensures.uses c.write_entry.ensures.uses
    (uses_bound (near_back s base) _ 1 68 _ _ (back_few s base) c.add_last.ensures.uses)

pub returns-in_err-node-clause-never : goal.returns-in_err-node-clause-never
returns-in_err-node-clause-never g c = λ pages lob is first can.
    let t1 = c.in_ok-taken.ensures.takes pages lob c.args.bytes.now is first refl can in
    handed_on c.take_node.result _ _ (c.take_node.ensures.never t1.0 lob t1.1 first (can_take pages t1.0 lob c.in_ok-taken.taken c.args.bytes.now _ _ can t1.2)) c.in_err-node.was c.from_residual-in_err-node.ensures

pub returns-in_err-add_last-clause-never : goal.returns-in_err-add_last-clause-never
returns-in_err-add_last-clause-never g c = λ pages lob is first can.
    let node = address_of c.in_ok-node.node in
    let taken = c.in_ok-taken.taken in
    let t1 = c.in_ok-taken.ensures.takes pages lob c.args.bytes.now is first refl can in
    let t2 = c.in_ok-node.ensures.takes t1.0 lob t1.1 first (can_take pages t1.0 lob taken c.args.bytes.now _ _ can t1.2) in
    let t3 = c.in_ok-write_bytes.ensures.writes t2.0 t2.1 in
    let t4 = told_step (SetsEntry node c.new_entry-entry.result) _ _ t3.0 t3.1 c.in_ok-write_entry.ensures.sets in
    let W : ℕ → Type 0 = λ n. WritesData n taken c.args.trx.0 c.args.bytes.now t2.0 t3.0 in
    let seen = seen_of pages t1.0 t2.0 t3.0 lob taken c.args.trx.0 c.args.bytes.now _ _ _ node can t1.2 t2.2 (subst W (sym first) t3.2) in
    let stands = loose_changed t3.0 t4.0 (node_taken t2.2.page t2.2.rest lob) node seen.seen t4.2.outside in
    let L : ℕ → Type 0 = λ n. IsList t4.0 (heads_base n) (map head_place lob.pieces) in
    handed_on c.add_last.result _ _ (c.add_last.ensures.never t4.0 (map head_place lob.pieces) t4.1 (subst L first stands.heads) (few_heads lob can.more)) c.in_err-add_last.was c.from_residual-in_err-add_last.ensures

pub returns-clause-adds : goal.returns-clause-adds
returns-clause-adds g c = λ pages lob is first can.
    let node = address_of c.in_ok-node.node in
    let taken = c.in_ok-taken.taken in
    let e = c.new_entry-entry.result in
    let t1 = c.in_ok-taken.ensures.takes pages lob c.args.bytes.now is first refl can in
    let t2 = c.in_ok-node.ensures.takes t1.0 lob t1.1 first (can_take pages t1.0 lob taken c.args.bytes.now _ _ can t1.2) in
    let t3 = c.in_ok-write_bytes.ensures.writes t2.0 t2.1 in
    let t4 = told_step (SetsEntry node e) _ _ t3.0 t3.1 c.in_ok-write_entry.ensures.sets in
    let W : ℕ → Type 0 = λ n. WritesData n taken c.args.trx.0 c.args.bytes.now t2.0 t3.0 in
    let seen = seen_of pages t1.0 t2.0 t3.0 lob taken c.args.trx.0 c.args.bytes.now _ _ _ node can t1.2 t2.2 (subst W (sym first) t3.2) in
    let stands = loose_changed t3.0 t4.0 (node_taken t2.2.page t2.2.rest lob) node seen.seen t4.2.outside in
    let heads = map head_place lob.pieces in
    let L : ℕ → Type 0 = λ n. IsList t4.0 (heads_base n) heads in
    let E : ℕ → Type 0 = λ n. IsApartFromAll (list_spans (heads_base n) heads) (node_span node) in
    let t5 = c.in_ok-add_last.ensures.adds t4.0 heads t4.1 (subst L first stands.heads) (subst E first (heads_elsewhere t4.0 (node_taken t2.2.page t2.2.rest lob) node stands)) (few_heads lob can.more) in
    let C : ℕ → Type 0 = λ n. ChangesList (heads_base n) (heads ++ node ∷ []) (heads ++ node ∷ []) t4.0 t5.0 in
    let Q : ℕ → Type 0 = λ k. IsNewEntry k (length c.args.bytes.now) c.args.trx.0 e in
    let R : ℕ → Type 0 = λ n. IsNewEntry (data_place n taken) (length c.args.bytes.now) c.args.trx.0 e in (
      t5.0,
      t5.1,
      added pages t1.0 t2.0 t3.0 t4.0 t5.0 lob taken c.args.trx.0 c.args.bytes.now _ _ _ node e can t1.2 t2.2 seen t4.2 (subst R (sym first) (subst Q c.place.ensures c.new_entry-entry.ensures.fields)) (subst C (sym first) t5.2),
    )

pub returns-in_err-taken-clause-honest : goal.returns-in_err-taken-clause-honest
returns-in_err-taken-clause-honest g c =
    let s = g.P.Pages.state c.args.p.now in
    honest_on _ _ c.take_data_page.result _ _ (adding_taking s s c.args.page.0 (length c.args.bytes.now) c.args.space.now) c.take_data_page.ensures.honest c.in_err-taken.was c.from_residual.ensures

pub returns-in_err-node-clause-honest : goal.returns-in_err-node-clause-honest
returns-in_err-node-clause-honest g c =
    let s = g.P.Pages.state c.args.p.now in
    honest_on _ _ c.take_node.result _ _ (adding_node s (g.P.Pages.state c.take_data_page.new.p) c.args.page.0 (length c.args.bytes.now) c.args.space.now c.take_data_page.ensures.uses.count) c.take_node.ensures.honest c.in_err-node.was c.from_residual-in_err-node.ensures

pub returns-in_err-add_last-clause-honest : goal.returns-in_err-add_last-clause-honest
returns-in_err-add_last-clause-honest g c =
    let s = g.P.Pages.state c.args.p.now in
    let count = c.write_entry.ensures.uses.count ∙ c.write_bytes.ensures.uses.count ∙ c.take_node.ensures.uses.count ∙ c.take_data_page.ensures.uses.count in
    honest_on _ _ c.add_last.result _ _ (adding_list s (g.P.Pages.state c.write_entry.new.p) c.args.page.0 (length c.args.bytes.now) c.args.space.now count) c.add_last.ensures.honest c.in_err-add_last.was c.from_residual-in_err-add_last.ensures
