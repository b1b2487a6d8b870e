use Rattle.std.proofs.Common.{◌∙◌, ℕ, List, ap, subst, sym, length, drop, ◌≤◌}
use Rattle.byteorder.specs.Endian.{big_number}
use Rattle.mini_trx.specs.Groups.{GroupView}
use Rattle.page_model.proofs.ParseLemmas.{frame_long}
use Rattle.mini_trx.proofs.GroupLemmas.{count_kept}
use Rattle.mini_trx.proofs.group.Group.count.Goals as goal

pub count_of-requires : goal.count_of-requires
count_of-requires c = let P : List ℕ → Type 0 = λ xs. 6 ≤ length xs in subst P (sym c.deref.ensures.value) (frame_long c.self.inside.buffer.items c.self.invariant.frame)

pub returns : goal.returns
returns c =
    c.from.ensures ∙ c.count_of.ensures ∙ ap (λ (xs : List ℕ). big_number 2 (drop 4 xs)) c.deref.ensures.value ∙ count_kept c.self.inside.buffer.items c.self.invariant
    ∙ ap (λ (v : GroupView). length v.writes) c.self.view_is
