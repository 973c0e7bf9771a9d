use Rattle.std.proofs.Common.{◌≡◌, ◌-◌, ◌≤◌}
use Rattle.samples.specs.Texts.{instances_text}
use Rattle.samples.proofs.texts.Naming.instances.Given as goal

abbrev pub invariant-loop-number : goal.invariant-loop-number
invariant-loop-number l = record {
  made : l.text.items ≡ instances_text l.self.between.now (l.number - 1);
  within : l.number - 1 ≤ l.count - 1;
}
