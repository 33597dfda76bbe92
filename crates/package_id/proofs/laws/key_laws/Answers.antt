use Rattle.package_id.proofs.Bytes.{IsSegment-key, list_all-key, list_all-bare, is_id-key, key-key}
use Rattle.package_id.proofs.laws.key_laws.Goals as goal

pub returns-clause-segment : goal.returns-clause-segment
returns-clause-segment c = IsSegment-key

pub returns-clause-bytes : goal.returns-clause-bytes
returns-clause-bytes c = list_all-key

pub returns-clause-bare : goal.returns-clause-bare
returns-clause-bare c = list_all-bare

pub returns-clause-is_id : goal.returns-clause-is_id
returns-clause-is_id c = is_id-key

pub returns-clause-own_key : goal.returns-clause-own_key
returns-clause-own_key c = key-key
