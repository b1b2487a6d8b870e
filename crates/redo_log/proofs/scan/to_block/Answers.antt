use Rattle.std.proofs.Common.{◌≡◌, ℕ, ◌+◌, ap₂, subst, Bool, arith}
use Rattle.file_model.specs.Sections.{wanted, blocks_place}
use Rattle.file_model.specs.Blocks.{blocks_len}
use Rattle.redo_log.specs.Scans.{FitsFound}
use Rattle.redo_log.proofs.PlaceLemmas.{place, region_inside, told_inside, told_found}
use Rattle.redo_log.proofs.scan.to_block.Goals as goal

pub find_block-requires-clause-whole : goal.find_block-requires-clause-whole
find_block-requires-clause-whole g c =
    let l = c.args.layout.now in
    let inside = region_inside l c.args.region c.requires.limits c.requires.region in
    told_inside (g.D.Disk.state c.args.disk.now).seen (c.gate_place-blocks.result + (c.region_room-len.result + 1)) (wanted l) (omega (arith, inside, c.gate_place-blocks.ensures.place, c.region_room-len.ensures, c.requires.limits.small_log)) c.requires.whole

pub returns-clause-log : goal.returns-clause-log
returns-clause-log g c =
    let l = c.args.layout.now in
    let begins : c.gate_place-blocks.result ≡ blocks_place l c.args.region = omega (arith, c.gate_place-blocks.ensures.place) in
    let size : c.region_room-len.result + 1 ≡ blocks_len l = omega (arith, c.region_room-len.ensures, c.requires.limits.small_log) in
    let none : c.args.place.left ≡ 0 = omega (arith, c.if-place-gt0.false) in
    told_found l c.args.region c.args.place.at c.gate_place-blocks.result (c.region_room-len.result + 1) c.args.place c.place_at.result c.in_ok-found.found (g.D.Disk.state c.args.disk.now).seen begins size
    (ap₂ (λ (left : ℕ) (ended : Bool). place c.args.place.at left ended) none c.if-place.false) c.requires.whole c.in_ok-found.ensures.leads
    (λ file whole leads. c.place_at.ensures.log c.args.region c.args.place.at file c.requires.region whole (let P : ℕ → Type 0 = λ n. FitsFound n c.args.place.at c.in_ok-found.found in subst P size c.in_ok-found.ensures.inside) leads)
