use Rattle.remoting_frame.proofs.BinaryAgain.{binary_again}
use Rattle.remoting_frame.proofs.BinaryTakes.{binary_takes}
use Rattle.remoting_frame.proofs.spellings.binary_headers_are_spelled.Goals as goal

pub returns-clause-read : goal.returns-clause-read
returns-clause-read c = λ bytes head is. binary_again bytes head is

pub returns-clause-only : goal.returns-clause-only
returns-clause-only c = λ bytes head fits e. binary_takes bytes head fits e
