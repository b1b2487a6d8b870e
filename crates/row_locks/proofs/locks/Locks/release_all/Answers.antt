use Rattle.std.proofs.Common.{◌≡◌, ◌≤◌, length, filter, option_map, nat_eq, ap, sym, ◌∙◌, arith}
use Rattle.std.specs.Map.{lookup}
use Rattle.indexmap.specs.IndexMap.{index_map_len}
use Rattle.engine_base.specs.declared.ids.SessionNo.{SessionNo}
use Rattle.row_locks.specs.Locks.{Table, holder, held_count, other_than}
use Rattle.row_locks.specs.Tables.{is_of_another}
use Rattle.row_locks.proofs.TableLemmas.{others_few, others_hold}
use Rattle.row_locks.proofs.locks.Locks.release_all.Goals as goal

pub invariant_of-self : goal.invariant_of-self
invariant_of-self c =
    let old = c.self.inside.holders in
    let few : length (filter (is_of_another c.args.s.0) c.self.inside.holders.entries)
    ≤ length c.self.inside.holders.entries =
    others_few c.args.s.0 c.self.inside.holders.entries in
    let left : index_map_len c.copy_others.new.into
    ≡ length (filter (is_of_another c.args.s.0) c.self.inside.holders.entries) =
    ap length c.copy_others.ensures.others in
    let inv = c.self.invariant in
    let cleared = rw c.swap.ensures.y_after at c.clear.ensures.capacity in
    rw c.swap.ensures.x_after ((
      omega (arith, c.copy_others.ensures.room, inv.2),
      omega (arith, few, left, inv.1),
      omega (arith, cleared, inv.0),
      c.clear.ensures.empty,
    ))

pub returns-clause-held : goal.returns-clause-held
returns-clause-held c = λ d.
    let there : holder c.args.self.now d ≡ option_map (λ (h : SessionNo). h.0)
    (lookup (nat_eq d) c.self.inside.holders.entries) =
    ap (λ (t : Table). holder t d) (sym c.self.view_is) in
    rw c.swap.ensures.x_after (rw c.copy_others.ensures.others
    (others_hold c.args.s.0 c.self.inside.holders.entries d c.copy_others.ensures.distinct
    ∙ ap (other_than c.args.s.0) (sym there)))

pub returns-clause-count : goal.returns-clause-count
returns-clause-count c =
    let few : length (filter (is_of_another c.args.s.0) c.self.inside.holders.entries)
    ≤ length c.self.inside.holders.entries =
    others_few c.args.s.0 c.self.inside.holders.entries in
    let there : held_count c.args.self.now ≡ length c.self.inside.holders.entries =
    ap held_count (sym c.self.view_is) in
    rw c.swap.ensures.x_after (rw c.copy_others.ensures.others (omega (arith, few, there)))
