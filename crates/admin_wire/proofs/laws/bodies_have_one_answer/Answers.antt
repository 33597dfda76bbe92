use Rattle.admin_wire.specs.Bodies.{IsLineOf, IsRecordOf, IsRefusedLine, IsRefusedRecord}
use Rattle.admin_wire.proofs.OneLine.{lines_determined}
use Rattle.admin_wire.proofs.OneRecord.{records_determined}
use Rattle.admin_wire.proofs.OneStop.{one_stop, read_or_refused}
use Rattle.admin_wire.proofs.laws.bodies_have_one_answer.Goals as goal

pub returns-clause-publishes : goal.returns-clause-publishes
returns-clause-publishes c = record {
  one = one_stop IsRecordOf IsRefusedRecord records_determined;
  none = read_or_refused IsRecordOf IsRefusedRecord records_determined;
}

pub returns-clause-names : goal.returns-clause-names
returns-clause-names c = record {
  one = λ kind. one_stop (IsLineOf kind) IsRefusedLine (lines_determined kind);
  none = λ kind. read_or_refused (IsLineOf kind) IsRefusedLine (lines_determined kind);
}
