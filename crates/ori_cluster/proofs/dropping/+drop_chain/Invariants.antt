use Rattle.ori_cluster.proofs.dropping.+drop_chain.Given as goal

abbrev pub decreases-drop_chain : goal.decreases-drop_chain
decreases-drop_chain g l = l.most
