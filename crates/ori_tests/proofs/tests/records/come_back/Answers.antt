use Rattle.ori_model.specs.Data.{record_of}
use Rattle.ori_tests.proofs.tests.records.come_back.Goals as goal

pub write-requires : goal.write-requires
write-requires c =
    c.spelled_writable.ensures c.args.bytes.now (record_of c.in-Ok.stored) c.in-Ok.bags c.in-Ok.ensures.ok.1
