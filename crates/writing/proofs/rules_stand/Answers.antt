use Rattle.writing.proofs.Breaks.{rule_whole}
use Rattle.writing.proofs.NetParts.{net_back}
use Rattle.writing.proofs.Rules.{rule_read, rule_taken}
use Rattle.writing.proofs.rules_stand.Goals as goal

pub returns : goal.returns
returns c = record { net_back = net_back; rule_whole = rule_whole; rule_read = rule_read; rule_taken = rule_taken }
