use Rattle.std.proofs.Common.{ℕ, map, [], ◌∷◌, ◌++◌, Option, IfSome, sym, ◌∙◌, subst}
use Rattle.page_model.specs.Pages.{Pages, Address}
use Rattle.page_model.specs.Lists.{IsList}
use Rattle.engine_base.specs.Addresses.{address_of}
use Rattle.file_lists.proofs.NearLemmas.{may_before}
use Rattle.file_lists.proofs.LinkLemmas.{handed_on}
use Rattle.page_space.specs.Map.{IsSize, IsUsed}
use Rattle.lob_model.specs.Pieces.{head_place}
use Rattle.lob_model.specs.Places.{heads_base}
use Rattle.lob_model.specs.Changes.{with_pieces}
use Rattle.lob_index.specs.Data.{GivesData}
use Rattle.lob_index.proofs.AnswerLemmas.{becomes_on}
use Rattle.lob_index.proofs.HonestLemmas.{honest_on}
use Rattle.lob_bytes.specs.declared.last.Last.{Last}
use Rattle.lob_bytes.specs.Freeing.{IsLast, FreesPiece, IsLastNode}
use Rattle.lob_bytes.proofs.LastLemmas.{heads_of, data_below}
use Rattle.lob_bytes.proofs.FreeingLemmas.{node_named, before_used, read_uses, remove_may, entry_may, page_may, remove_uses, entry_uses, page_uses, odd_before, node_freed, node_loose, map_freed, page_used, piece_freed}
use Rattle.lob_bytes.proofs.freeing.free_last_piece.Goals as goal

pub returns-in_err-last-clause-plain : goal.returns-in_err-last-clause-plain
returns-in_err-last-clause-plain g c = λ pages lob told first is. handed_on c.read_last.result _ _ (c.read_last.ensures.plain pages lob told first is) c.in_err-last.was c.from_residual.ensures

pub returns-in_err-last-clause-uses : goal.returns-in_err-last-clause-uses
returns-in_err-last-clause-uses g c = read_uses c.args.page.0 c.args.p.now c.read_last.new.p c.read_last.ensures.uses

pub returns-in_default-clause-uses : goal.returns-in_default-clause-uses
returns-in_default-clause-uses g c = read_uses c.args.page.0 c.args.p.now c.read_last.new.p c.read_last.ensures.uses

pub remove_last-requires-clause-may : goal.remove_last-requires-clause-may
remove_last-requires-clause-may g c =
    let u1 = node_named c.args.page.0 c.args.p.now c.read_last.new.p _ c.in-Some.last c.in-Some.is c.in_ok-last.ensures.named in
    let t = c.read_last.new.p in
    may_before (g.P.Pages.state t) (address_of c.in-Some.last.node) _ 40 (remove_may g.P.Pages.stays_on c.in-Some.last.node.page.0 c.args.page.0 c.args.p.now t t t t c.requires.may u1)

pub returns-in_err-remove_last-clause-honest : goal.returns-in_err-remove_last-clause-honest
returns-in_err-remove_last-clause-honest g c =
    let s = g.P.Pages.state c.args.p.now in
    let N : Option Last → Type 0 = λ o. IfSome o (λ l. IsLastNode s.told c.args.page.0 (address_of l.node)) in
    let here = subst N c.in-Some.is c.in_ok-last.ensures.reads in
    honest_on _ _ c.remove_last.result _ _ (odd_before s (g.P.Pages.state c.read_last.new.p) c.args.page.0 (address_of c.in-Some.last.node) c.read_last.ensures.told c.read_last.ensures.uses.count here) c.remove_last.ensures.honest c.in_err-remove_last.was c.from_residual-in_err-remove_last.ensures

pub returns-in_err-remove_last-clause-uses : goal.returns-in_err-remove_last-clause-uses
returns-in_err-remove_last-clause-uses g c =
    let u1 = node_named c.args.page.0 c.args.p.now c.read_last.new.p _ c.in-Some.last c.in-Some.is c.in_ok-last.ensures.named in
    let u2 = before_used (address_of c.in-Some.last.node) _ 40 c.read_last.new.p c.remove_last.new.p c.remove_last.ensures.uses in
    let v = c.remove_last.new.p in
    remove_uses g.P.Pages.stays_on c.in-Some.last.node.page.0 c.args.page.0 c.args.p.now c.read_last.new.p v v v u1 u2

pub give_entry-requires-clause-may : goal.give_entry-requires-clause-may
give_entry-requires-clause-may g c =
    let u1 = node_named c.args.page.0 c.args.p.now c.read_last.new.p _ c.in-Some.last c.in-Some.is c.in_ok-last.ensures.named in
    let u2 = before_used (address_of c.in-Some.last.node) _ 40 c.read_last.new.p c.remove_last.new.p c.remove_last.ensures.uses in
    let v = c.remove_last.new.p in
    entry_may g.P.Pages.stays_on c.in-Some.last.node.page.0 c.args.page.0 c.args.p.now c.read_last.new.p v v v c.requires.may u1 u2

pub returns-in_err-give_entry-clause-uses : goal.returns-in_err-give_entry-clause-uses
returns-in_err-give_entry-clause-uses g c =
    let u1 = node_named c.args.page.0 c.args.p.now c.read_last.new.p _ c.in-Some.last c.in-Some.is c.in_ok-last.ensures.named in
    let u2 = before_used (address_of c.in-Some.last.node) _ 40 c.read_last.new.p c.remove_last.new.p c.remove_last.ensures.uses in
    let w = c.give_entry.new.p in
    entry_uses g.P.Pages.stays_on c.in-Some.last.node.page.0 c.args.page.0 c.args.p.now c.read_last.new.p c.remove_last.new.p w w u1 u2 c.give_entry.ensures.uses

pub give_data-requires-clause-may : goal.give_data-requires-clause-may
give_data-requires-clause-may g c =
    let u1 = node_named c.args.page.0 c.args.p.now c.read_last.new.p _ c.in-Some.last c.in-Some.is c.in_ok-last.ensures.named in
    let u2 = before_used (address_of c.in-Some.last.node) _ 40 c.read_last.new.p c.remove_last.new.p c.remove_last.ensures.uses in
    let w = c.give_entry.new.p in
    page_may g.P.Pages.stays_on c.in-Some.last.node.page.0 c.args.page.0 c.args.p.now c.read_last.new.p c.remove_last.new.p w w c.requires.may u1 u2 c.give_entry.ensures.uses

pub returns-in_err-give_data-clause-uses : goal.returns-in_err-give_data-clause-uses
returns-in_err-give_data-clause-uses g c =
    let u1 = node_named c.args.page.0 c.args.p.now c.read_last.new.p _ c.in-Some.last c.in-Some.is c.in_ok-last.ensures.named in
    let u2 = before_used (address_of c.in-Some.last.node) _ 40 c.read_last.new.p c.remove_last.new.p c.remove_last.ensures.uses in
    page_uses g.P.Pages.stays_on c.in-Some.last.node.page.0 c.args.page.0 c.args.p.now c.read_last.new.p c.remove_last.new.p c.give_entry.new.p c.give_data.new.p u1 u2 c.give_entry.ensures.uses c.give_data.ensures.uses

pub returns-clause-uses : goal.returns-clause-uses
returns-clause-uses g c =
    let u1 = node_named c.args.page.0 c.args.p.now c.read_last.new.p _ c.in-Some.last c.in-Some.is c.in_ok-last.ensures.named in
    let u2 = before_used (address_of c.in-Some.last.node) _ 40 c.read_last.new.p c.remove_last.new.p c.remove_last.ensures.uses in
    page_uses g.P.Pages.stays_on c.in-Some.last.node.page.0 c.args.page.0 c.args.p.now c.read_last.new.p c.remove_last.new.p c.give_entry.new.p c.give_data.new.p u1 u2 c.give_entry.ensures.uses c.give_data.ensures.uses

pub returns-in_err-give_entry-clause-never : goal.returns-in_err-give_entry-clause-never
returns-in_err-give_entry-clause-never g c = λ pages lob ps x told first can.
    let f = c.args.page.0 in
    let last = c.in-Some.last in
    let node = address_of last.node in
    let is = subst (IsLast ps x) c.in-Some.is (c.in_ok-last.ensures.value pages lob ps x told first can.lob') in
    let L : Address → Type 0 = λ a. IsList pages (heads_base f) (map head_place ps ++ a ∷ []) in
    let list = subst L (sym is.0) (heads_of pages lob ps x can.lob' f first) in
    let removed = c.in_ok-remove_last.ensures.removes pages (map head_place ps) (c.read_last.ensures.told ∙ told) list in
    let size = subst IsSize (sym c.read_last.ensures.uses.count ∙ sym c.remove_last.ensures.uses.count) c.requires.size in
    let loose = node_loose pages _ lob ps x f node first is.0 can.lob' removed in
    handed_on c.give_entry.result _ _ (c.give_entry.ensures.never removed.0 (with_pieces lob ps) removed.1 first size loose) c.in_err-give_entry.was c.from_residual-in_err-give_entry.ensures

pub returns-in_err-give_data-clause-never : goal.returns-in_err-give_data-clause-never
returns-in_err-give_data-clause-never g c = λ pages lob ps x told first can.
    let f = c.args.page.0 in
    let last = c.in-Some.last in
    let node = address_of last.node in
    let is = subst (IsLast ps x) c.in-Some.is (c.in_ok-last.ensures.value pages lob ps x told first can.lob') in
    let L : Address → Type 0 = λ a. IsList pages (heads_base f) (map head_place ps ++ a ∷ []) in
    let list = subst L (sym is.0) (heads_of pages lob ps x can.lob' f first) in
    let removed = c.in_ok-remove_last.ensures.removes pages (map head_place ps) (c.read_last.ensures.told ∙ told) list in
    let size = subst IsSize (sym c.read_last.ensures.uses.count ∙ sym c.remove_last.ensures.uses.count) c.requires.size in
    let given = node_freed _ _ pages lob ps x f node first is.0 can.lob' removed
    (λ mid here loose. c.in_ok-give_entry.ensures.gives mid (with_pieces lob ps) here first size loose is.2) in
    let U : ℕ → Type 0 = λ n. IsUsed given.0 n in
    handed_on c.give_data.result _ _
    (c.give_data.ensures.never given.0 given.1 (map_freed pages given.0 lob ps x can given.2) (λ other. subst U (sym is.1) (page_used pages given.0 lob ps x can given.2 (λ e. other (is.1 ∙ e ∙ first)))))
    c.in_err-give_data.was c.from_residual-in_err-give_data.ensures

pub returns-clause-frees : goal.returns-clause-frees
returns-clause-frees g c = λ pages lob ps x told first can.
    let f = c.args.page.0 in
    let last = c.in-Some.last in
    let node = address_of last.node in
    let is = subst (IsLast ps x) c.in-Some.is (c.in_ok-last.ensures.value pages lob ps x told first can.lob') in
    let L : Address → Type 0 = λ a. IsList pages (heads_base f) (map head_place ps ++ a ∷ []) in
    let list = subst L (sym is.0) (heads_of pages lob ps x can.lob' f first) in
    let removed = c.in_ok-remove_last.ensures.removes pages (map head_place ps) (c.read_last.ensures.told ∙ told) list in
    let size = subst IsSize (sym c.read_last.ensures.uses.count ∙ sym c.remove_last.ensures.uses.count) c.requires.size in
    let given = node_freed _ _ pages lob ps x f node first is.0 can.lob' removed
    (λ mid here loose. c.in_ok-give_entry.ensures.gives mid (with_pieces lob ps) here first size loose is.2) in
    let U : ℕ → Type 0 = λ n. IsUsed given.0 n in
    let D : ℕ → ℕ → Pages → Type 0 = λ n k new. GivesData n k given.0 new in
    let R : Pages → Type 0 = λ new. FreesPiece lob ps x pages new in (
      is.2,
      becomes_on (D f last.page.0) R _
          (λ new gives. piece_freed pages given.0 lob ps x can given.2 new (data_below pages lob ps x can.lob') (subst (λ (n : ℕ). D n x.page new) (sym first) (subst (λ (k : ℕ). D f k new) is.1 gives)))
          (c.in_ok-give_data.ensures.gives given.0 given.1 (map_freed pages given.0 lob ps x can given.2) (λ other. subst U (sym is.1) (page_used pages given.0 lob ps x can given.2 (λ e. other (is.1 ∙ e ∙ first))))),
    )
