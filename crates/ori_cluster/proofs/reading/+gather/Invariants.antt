use Rattle.ori_cluster.proofs.reading.+gather.Given as goal

abbrev pub decreases-gather : goal.decreases-gather
decreases-gather g l = l.most
