use Rattle.ent_table.proofs.lists.Lists.blocks.Goals as goal

pub returns-in-People-clause-distinct : goal.returns-in-People-clause-distinct
returns-in-People-clause-distinct c = rw (← c.self.view_is, c.in-People.is) c.as_slice-people.ensures.distinct

pub returns-in-Actions-clause-distinct : goal.returns-in-Actions-clause-distinct
returns-in-Actions-clause-distinct c = rw (← c.self.view_is, c.in-Actions.is) c.as_slice-actions.ensures.distinct

pub returns-in-Resources-clause-distinct : goal.returns-in-Resources-clause-distinct
returns-in-Resources-clause-distinct c = rw (← c.self.view_is, c.in-Resources.is) c.as_slice-resources.ensures.distinct
