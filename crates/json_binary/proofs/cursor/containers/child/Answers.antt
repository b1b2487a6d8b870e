use Rattle.binary_model.specs.Layout.{child}
use Rattle.json_binary.specs.Place.{container_of, spot_of}
use Rattle.json_binary.proofs.UsageLemmas.{behind_reached}
use Rattle.json_binary.proofs.SearchLemmas.{element_found, member_found}
use Rattle.json_binary.proofs.cursor.containers.child.Goals as goal

pub returns-then-spot-clause-none : goal.returns-then-spot-clause-none
returns-then-spot-clause-none c = λ t v. behind_reached c.args.bytes.now t (spot_of c.child-spot.result) (child c.args.bytes.now (container_of c.args.container) c.args.k) c.child-spot.ensures v c.if-spot.true

pub returns-clause-element : goal.returns-clause-element
returns-clause-element c = λ ts floor t a h. element_found c.args.bytes.now (container_of c.args.container) c.args.k floor ts t (spot_of c.child-spot.result) c.child-spot.ensures a h

pub returns-clause-value : goal.returns-clause-value
returns-clause-value c = λ ms floor m a h. member_found c.args.bytes.now (container_of c.args.container) c.args.k floor ms m (spot_of c.child-spot.result) c.child-spot.ensures a h
