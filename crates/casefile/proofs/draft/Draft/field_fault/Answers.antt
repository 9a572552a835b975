use Rattle.std.proofs.Common.{arith}
use Rattle.casetext.proofs.Layouts.{few_forms}
use Rattle.casefile.specs.Draft.{said}
use Rattle.casefile.proofs.draft.Draft.field_fault.Goals as goal

pub overflow_cast-i : goal.overflow_cast-i
overflow_cast-i c = let few = few_forms (said c.args.self.now) c.args.kind (omega (arith, c.args.self.now.ceilings.few, c.args.self.now.ceilings.items.ok.0)) in omega (arith, few)

pub overflow_add-i : goal.overflow_add-i
overflow_add-i c = let few = few_forms (said c.args.self.now) c.args.kind (omega (arith, c.args.self.now.ceilings.few, c.args.self.now.ceilings.items.ok.0)) in omega (arith, few)
