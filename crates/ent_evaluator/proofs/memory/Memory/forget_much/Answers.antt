use Rattle.ent_evaluator.proofs.memory.Memory.forget_much.Goals as goal

pub returns-then-is_much : goal.returns-then-is_much
returns-then-is_much c = λ looks questions has. c.forget.ensures looks questions

pub returns-else-is_much : goal.returns-else-is_much
returns-else-is_much c = λ looks questions has. has
