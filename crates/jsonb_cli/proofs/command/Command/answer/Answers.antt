use Rattle.jsonb_cli.proofs.command.Command.answer.Goals as goal

pub returns-in-Enc : goal.returns-in-Enc
returns-in-Enc c = rw c.in-Enc.is c.answer_enc.ensures

pub returns-in-Dec : goal.returns-in-Dec
returns-in-Dec c = rw c.in-Dec.is c.answer_dec.ensures

pub returns-in-Pretty : goal.returns-in-Pretty
returns-in-Pretty c = rw c.in-Pretty.is c.answer_pretty.ensures

pub returns-in-ItemType : goal.returns-in-ItemType
returns-in-ItemType c = rw c.in-ItemType.is c.answer_type.ensures

pub returns-in-Get : goal.returns-in-Get
returns-in-Get c = rw c.in-Get.is c.answer_get.ensures

pub returns-in-Cmp : goal.returns-in-Cmp
returns-in-Cmp c = rw c.in-Cmp.is c.answer_cmp.ensures

pub returns-in-Arr : goal.returns-in-Arr
returns-in-Arr c = rw c.in-Arr.is c.answer_arr.ensures

pub returns-in-Canon : goal.returns-in-Canon
returns-in-Canon c = rw c.in-Canon.is c.answer_canon.ensures
