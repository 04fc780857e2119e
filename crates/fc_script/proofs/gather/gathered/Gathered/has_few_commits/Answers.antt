use Rattle.std.proofs.Common.{List, ◌∙◌, ap}
use Rattle.std.specs.Prelude.{length, nat_le}
use Rattle.std.specs.List.{list_all}
use Rattle.fc_script.specs.declared.gather.shards.ShardSoFar.{ShardSoFar}
use Rattle.fc_script.proofs.FewCommits.{few_seen}
use Rattle.fc_script.proofs.gather.gathered.Gathered.has_few_commits.Goals as goal

pub returns : goal.returns
returns c = c.have_few.ensures ∙ ap (λ (xs : List ShardSoFar). list_all (λ x. nat_le (length x.batches.items) 4096) xs) c.deref.ensures.value ∙ few_seen c.args.self.now.shards.items
