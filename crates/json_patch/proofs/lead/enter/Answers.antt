use Rattle.json_path.specs.View.{leg_of}
use Rattle.json_binary.specs.Place.{container_of, spot_of}
use Rattle.json_patch.proofs.PlaceLemmas.{entered_value, kid_there}
use Rattle.json_patch.proofs.lead.enter.Goals as goal

pub returns-in-Some-child-clause-entered : goal.returns-in-Some-child-clause-entered
returns-in-Some-child-clause-entered c =
    λ t is v. entered_value c.args.bytes.now t (spot_of c.args.spot) c.in-Some.container (leg_of c.args.leg.now) c.in-Some-number_of.k c.in-Some-child.inner is v c.in-Some.ensures.place c.in-Some.ensures.framed
    c.in-Some-number_of.ensures.number c.in-Some-child.ensures.place

pub returns-in-None-clause-entered : goal.returns-in-None-clause-entered
returns-in-None-clause-entered c =
    λ t is v. let kid = kid_there c.args.bytes.now t (spot_of c.args.spot) (container_of c.in-Some.container) c.in-Some-number_of.k v c.in-Some.ensures.place c.in-Some-number_of.ensures.within in
    absurd (c.in-None.ensures.none kid.0 kid.1)
