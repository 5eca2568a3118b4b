use Rattle.std.proofs.Common.{ltb, rules}
use Rattle.std.proofs.lemmas.List.Sorted.{IsPartitionPoint-from_clause, IsPartitionedBy-ltb}
use Rattle.ori_bytes.specs.declared.rid.Rid.{Rid}
use Rattle.ori_decide.specs.Renaming.{order_of}
use Rattle.ori_decide.proofs.Ordered.{rises, halved_by}
use Rattle.ori_decide.proofs.renamings.place_of.Goals as goal

pub returns : goal.returns
returns c =
    halved_by c.args.pairs.now c.args.order c.partition_point.result
    (IsPartitionPoint-from_clause (λ (p : Rid × Rid). ltb (order_of p.0) c.args.order) _ _
    c.partition_point.ensures.partitioned
    (IsPartitionedBy-ltb (λ (p : Rid × Rid). order_of p.0) _ c.args.order (rises 0 c.args.pairs.now c.requires))
    (λ a r q k. search rules))
