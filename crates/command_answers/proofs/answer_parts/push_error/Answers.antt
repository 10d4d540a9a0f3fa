use Rattle.command_answers.proofs.answer_parts.push_error.Goals as goal

pub returns-in-NoRelation-clause-text : goal.returns-in-NoRelation-clause-text
returns-in-NoRelation-clause-text c = rw c.in-NoRelation.is c.push_missing.ensures.text

pub returns-in-NoIndex-clause-text : goal.returns-in-NoIndex-clause-text
returns-in-NoIndex-clause-text c = rw c.in-NoIndex.is c.push_missing-in-NoIndex.ensures.text

pub returns-in-NoConstraint-clause-text : goal.returns-in-NoConstraint-clause-text
returns-in-NoConstraint-clause-text c = rw c.in-NoConstraint.is c.push_absent-in-NoConstraint.ensures.text

pub returns-in-RelationExists-clause-text : goal.returns-in-RelationExists-clause-text
returns-in-RelationExists-clause-text c = rw c.in-RelationExists.is c.push_present.ensures.text

pub returns-in-InUse-clause-text : goal.returns-in-InUse-clause-text
returns-in-InUse-clause-text c = rw c.in-InUse.is c.push_open.ensures.text

pub returns-in-Depends-clause-text : goal.returns-in-Depends-clause-text
returns-in-Depends-clause-text c = rw c.in-Depends.is c.push_depends.ensures.text

pub returns-in-ColumnUsed-clause-text : goal.returns-in-ColumnUsed-clause-text
returns-in-ColumnUsed-clause-text c = rw c.in-ColumnUsed.is c.push_column_used.ensures.text

pub returns-in-ColumnExists-clause-text : goal.returns-in-ColumnExists-clause-text
returns-in-ColumnExists-clause-text c = rw c.in-ColumnExists.is c.push_present-in-ColumnExists.ensures.text

pub returns-in-NoColumn-clause-text : goal.returns-in-NoColumn-clause-text
returns-in-NoColumn-clause-text c = rw c.in-NoColumn.is c.push_absent-in-NoColumn.ensures.text

pub returns-in-ConstraintExists-clause-text : goal.returns-in-ConstraintExists-clause-text
returns-in-ConstraintExists-clause-text c = rw c.in-ConstraintExists.is c.push_present-in-ConstraintExists.ensures.text

pub returns-in-TriggerExists-clause-text : goal.returns-in-TriggerExists-clause-text
returns-in-TriggerExists-clause-text c = rw c.in-TriggerExists.is c.push_present-in-TriggerExists.ensures.text

pub returns-in-OutOfRange-clause-text : goal.returns-in-OutOfRange-clause-text
returns-in-OutOfRange-clause-text c = rw c.in-OutOfRange.is c.push_out_of_range.ensures.text

pub returns-in-TooManyColumns-clause-text : goal.returns-in-TooManyColumns-clause-text
returns-in-TooManyColumns-clause-text c = rw c.in-TooManyColumns.is c.push-in-TooManyColumns.ensures.text

pub returns-in-BlockFailed-clause-text : goal.returns-in-BlockFailed-clause-text
returns-in-BlockFailed-clause-text c = rw c.in-BlockFailed.is c.push.ensures.text

pub returns-in-NoBlock-clause-text : goal.returns-in-NoBlock-clause-text
returns-in-NoBlock-clause-text c = rw c.in-NoBlock.is c.push-in-NoBlock.ensures.text

pub returns-in-NoSavepoint-clause-text : goal.returns-in-NoSavepoint-clause-text
returns-in-NoSavepoint-clause-text c = rw c.in-NoSavepoint.is c.push_absent.ensures.text

pub returns-in-NotOpen-clause-text : goal.returns-in-NotOpen-clause-text
returns-in-NotOpen-clause-text c = rw c.in-NotOpen.is c.push_around.ensures.text

pub returns-in-NoTrigger-clause-text : goal.returns-in-NoTrigger-clause-text
returns-in-NoTrigger-clause-text c = rw c.in-NoTrigger.is c.push_absent-in-NoTrigger.ensures.text

pub returns-in-Locked-clause-text : goal.returns-in-Locked-clause-text
returns-in-Locked-clause-text c = rw c.in-Locked.is c.push_locked.ensures.text

pub returns-in-NameInUse-clause-text : goal.returns-in-NameInUse-clause-text
returns-in-NameInUse-clause-text c = rw c.in-NameInUse.is c.push_in_use.ensures.text

pub returns-in-NotTable-clause-text : goal.returns-in-NotTable-clause-text
returns-in-NotTable-clause-text c = rw c.in-NotTable.is c.push_around-in-NotTable.ensures.text

pub returns-in-NotIndex-clause-text : goal.returns-in-NotIndex-clause-text
returns-in-NotIndex-clause-text c = rw c.in-NotIndex.is c.push_around-in-NotIndex.ensures.text

pub returns-in-NoField-clause-text : goal.returns-in-NoField-clause-text
returns-in-NoField-clause-text c = rw c.in-NoField.is c.push_no_field.ensures.text

pub returns-in-WantOfMemory-clause-text : goal.returns-in-WantOfMemory-clause-text
returns-in-WantOfMemory-clause-text c = rw c.in-WantOfMemory.is c.push-in-WantOfMemory.ensures.text
