use Rattle.std.proofs.Common.{arith}
use Rattle.swp08_messages.proofs.DumpLemmas.{length-page_text, page_text-bytes, page_text-one}
use Rattle.swp08_messages.proofs.laws.one_page.Goals as goal

pub returns-clause-len : goal.returns-clause-len
returns-clause-len c = length-page_text

pub returns-clause-most : goal.returns-clause-most
returns-clause-most c page is = omega (arith, length-page_text page, is.most)

pub returns-clause-bytes : goal.returns-clause-bytes
returns-clause-bytes c = page_text-bytes

pub returns-clause-one : goal.returns-clause-one
returns-clause-one c = page_text-one
