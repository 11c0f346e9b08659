use Rattle.remoting_frame.proofs.PlainReading.{numbers_begin, whole_numbers}
use Rattle.remoting_frame.proofs.plain_reader.take_number.Goals as goal

pub returns-clause-begins : goal.returns-clause-begins
returns-clause-begins c = numbers_begin 126 c.number.result c.args.scanner.now c.number.new.self c.number.ensures.fits c.number.ensures.value

pub returns-clause-whole : goal.returns-clause-whole
returns-clause-whole c = whole_numbers c.number.result c.number.ensures.fits
