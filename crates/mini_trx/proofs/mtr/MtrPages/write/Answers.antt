use Rattle.std.proofs.Common.{◌≡◌, ◌∙◌, ◌+◌, List, ℕ, ◌∷◌, length, map, refl, sym, subst, ap, arith}
use Rattle.page_model.specs.Pages.{Write}
use Rattle.page_model.specs.Steps.{IsWithin}
use Rattle.mini_trx.specs.Copies.{page_of}
use Rattle.page_model.specs.Frames.{write, frame_bytes}
use Rattle.mini_trx.proofs.CoherenceLemmas.{coherent_after}
use Rattle.mini_trx.proofs.MtrLemmas.{told_written, touches_pinned, pages_patched, length-frame_push}
use Rattle.mini_trx.proofs.mtr.MtrPages.write.Goals as goal

pub invariant_of-self-in-Break-1 : goal.invariant_of-self-in-Break-1
invariant_of-self-in-Break-1 g c = record { coherent = c.pin.ensures.pins.coherent c.args.self.now.memo.group.writes c.args.self.now.coherent }

pub invariant_of-self-2 : goal.invariant_of-self-2
invariant_of-self-2 g c =
    let s = g.C.Cache.state c.pin.new.cache in
    let ws = c.args.self.now.memo.group.writes in
    let keeps = g.C.Cache.stays_pages _ _ c.pin.ensures.stays in
    record {
      coherent = coherent_after s c.pin.new.lent c.write.new.self.lent ws c.write.new.self.group.writes c.in_ok-place.place c.args.page.0 c.args.at c.args.bytes.now
          (c.pin.ensures.pins.coherent ws c.args.self.now.coherent) (g.C.Cache.whole c.pin.new.cache) c.in_ok-place.ensures.place
          (let b = c.requires.page in omega (arith, keeps.count, b)) c.requires.within c.write.ensures.copies c.write.ensures.writes;
    }

pub returns-clause-written : goal.returns-clause-written
returns-clause-written g c =
    told_written (g.C.Cache.state c.args.self.now.cache.now).told (g.C.Cache.state c.pin.new.cache).told c.args.self.now.memo.group.writes c.write.new.self.group.writes c.args.page.0 c.args.at c.args.bytes.now
    (g.C.Cache.stays_pages _ _ c.pin.ensures.stays).told c.write.ensures.writes

pub returns-clause-uses : goal.returns-clause-uses
returns-clause-uses g c =
    let ws = c.args.self.now.memo.group.writes in
    let same : map page_of c.write.new.self.lent ≡ map page_of c.pin.new.lent = pages_patched c.pin.new.lent c.write.new.self.lent c.in_ok-place.place c.args.at c.args.bytes.now c.write.ensures.copies in
    let Q : List ℕ → Type 0 = λ ns. IsWithin ns (c.args.page.0 ∷ map page_of c.args.self.now.memo.lent) in
    let long : length (frame_bytes c.write.new.self.group.writes) ≡ length (frame_bytes ws) + (8 + length c.args.bytes.now) =
    ap (λ (vs : List Write). length (frame_bytes vs)) c.write.ensures.writes ∙ length-frame_push ws (write c.args.page.0 c.args.at c.args.bytes.now) in
    record {
      count = (g.C.Cache.stays_pages _ _ c.pin.ensures.stays).count;
      touches = touches_pinned c.args.page.0 (map page_of c.args.self.now.memo.lent) (map page_of c.write.new.self.lent) (subst Q (sym same) c.pin.ensures.pins.pages);
      room = omega (arith, long);
      same = (refl, c.pin.ensures.stays, c.pin.ensures.out);
    }
